use Rattle.diff_bounds.proofs.WordByWord.{IsNextOf}
use Rattle.diff_bounds.proofs.matrix.lattice.next_threshold.Given as goal

abbrev pub invariant-loop-k : goal.invariant-loop-k
invariant-loop-k l = IsNextOf l.thresholds l.k l.z l.least
