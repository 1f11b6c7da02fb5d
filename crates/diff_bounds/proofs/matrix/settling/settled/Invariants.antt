use Rattle.std.proofs.Common.{ℕ, ◌<◌, pos, get_or}
use Rattle.diff_bounds.specs.Settled.{IsSettledWord}
use Rattle.diff_bounds.proofs.matrix.settling.settled.Given as goal

abbrev pub invariant-loop-k : goal.invariant-loop-k
invariant-loop-k l = (j : ℕ) → j < l.k → IsSettledWord (get_or l.m j (pos 0))
