use Rattle.std.proofs.Common.{◌≤◌}
use Rattle.widen_solver.proofs.iteration.count_before.Given as goal

abbrev pub invariant-back : goal.invariant-back
invariant-back g l = l.before ≤ l.count

abbrev pub decreases-back : goal.decreases-back
decreases-back g l = l.before
