use Rattle.std.proofs.Common.{◌≡◌, ℕ, ◌<◌, ◌≤◌, pos, get_or}
use Rattle.diff_bounds.specs.Widening.{IsWidened}
use Rattle.diff_bounds.proofs.matrix.lattice.widen_words.Given as goal

abbrev pub invariant-loop-k : goal.invariant-loop-k
invariant-loop-k l = record {
  done : (j : ℕ) → j < l.k → IsWidened l.thresholds (get_or l.fn.a j (pos 0)) (get_or l.b j (pos 0)) (get_or l.a j (pos 0));
  left : (j : ℕ) → l.k ≤ j → get_or l.a j (pos 0) ≡ get_or l.fn.a j (pos 0);
}
