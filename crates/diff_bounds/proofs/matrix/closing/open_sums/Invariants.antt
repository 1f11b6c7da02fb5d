use Rattle.std.proofs.Common.{◌≡◌, ℕ, ◌<◌, ◌≤◌, pos, get_or}
use Rattle.diff_bounds.specs.Sums.{IsSumOf}
use Rattle.diff_bounds.proofs.matrix.closing.open_sums.Given as goal

abbrev pub invariant-loop-k : goal.invariant-loop-k
invariant-loop-k l = record {
  done : (j : ℕ) → j < l.k → IsSumOf (get_or l.fn.m j (pos 0)) (get_or l.m j (pos 0));
  left : (j : ℕ) → l.k ≤ j → get_or l.m j (pos 0) ≡ get_or l.fn.m j (pos 0);
}
