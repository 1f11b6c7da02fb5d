use Rattle.widen_solver.proofs.Starting.{ClearedTo}
use Rattle.widen_solver.proofs.iteration.start.Given as goal

abbrev pub invariant-loop-index : goal.invariant-loop-index
invariant-loop-index g l = ClearedTo l.fn.rows l.rows (g.S.Domain.lattice l.system).least (g.S.System.flow l.system).nodes l.index
