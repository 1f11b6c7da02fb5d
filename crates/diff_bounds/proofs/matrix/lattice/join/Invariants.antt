use Rattle.std.proofs.Common.{◌≡◌, ℕ, ◌<◌, ◌≤◌, pos, get_or}
use Rattle.std.specs.Int.{int_max}
use Rattle.diff_bounds.proofs.matrix.lattice.join.Given as goal

abbrev pub invariant-loop-k : goal.invariant-loop-k
invariant-loop-k l = record {
  done : (j : ℕ) → j < l.k → get_or l.a j (pos 0) ≡ int_max (get_or l.fn.a j (pos 0)) (get_or l.b j (pos 0));
  left : (j : ℕ) → l.k ≤ j → get_or l.a j (pos 0) ≡ get_or l.fn.a j (pos 0);
}
