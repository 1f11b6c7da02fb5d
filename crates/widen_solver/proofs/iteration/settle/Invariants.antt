use Rattle.std.proofs.Common.{◌+◌, ◌≤◌}
use Rattle.widen_solver.specs.Solving.{IsUnderWay, AreSettled, steps_left}
use Rattle.widen_solver.specs.RowsHeld.{shown_rows, IsReady}
use Rattle.widen_solver.proofs.iteration.settle.Given as goal

abbrev pub invariant-edges : goal.invariant-edges
invariant-edges g l =
    let lattice = g.S.Domain.lattice l.system in
    let flow = g.S.System.flow l.system in
    IsUnderWay lattice flow (shown_rows l.rows) × AreSettled lattice flow (shown_rows l.rows) (l.settled + 1) × IsReady lattice l.rows × (l.initial.steps + l.settled ≤ l.steps) × (l.steps + steps_left lattice flow (shown_rows l.rows) (l.settled + 1) ≤ l.initial.steps + steps_left lattice flow (shown_rows l.initial.rows) 1)

abbrev pub decreases-edges : goal.decreases-edges
decreases-edges g l = steps_left (g.S.Domain.lattice l.system) (g.S.System.flow l.system) (shown_rows l.rows) (l.settled + 1)
