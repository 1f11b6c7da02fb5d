use Rattle.std.proofs.Common.{◌≡◌, ℕ, ◌<◌, ◌≤◌, pos, get_or}
use Rattle.std.specs.Int.{int_min}
use Rattle.diff_layer.proofs.pack.matrix_images.lower_to.Given as goal

abbrev pub invariant-loop-k : goal.invariant-loop-k
invariant-loop-k l = record {
  done : (j : ℕ) → j < l.k → get_or l.m j (pos 0) ≡ int_min (get_or l.fn.m j (pos 0)) (get_or l.other j (pos 0));
  left : (j : ℕ) → l.k ≤ j → get_or l.m j (pos 0) ≡ get_or l.fn.m j (pos 0);
}
