use Rattle.std.proofs.Common.{arith}
use Rattle.widen_solver.specs.RowsHeld.{shown_rows}
use Rattle.widen_solver.proofs.StepsLeft.{goes_on, goes_back}
use Rattle.widen_solver.proofs.iteration.advance.Goals as goal

pub returns-then-take_edge-clause-advances : goal.returns-then-take_edge-clause-advances
returns-then-take_edge-clause-advances g c =
    let system = c.args.system.now in
    goes_back (g.S.Domain.lattice system) (g.S.System.flow system) c.args.edge c.requires.edge (shown_rows c.args.rows.now) (shown_rows c.take_edge.new.rows) c.requires.settled c.take_edge.result c.if-take_edge.true c.take_edge.ensures.taken c.count_before.result c.count_before.ensures.within
    (λ other is upto. omega (arith, c.count_before.ensures.before other is upto, c.target.ensures))

pub returns-clause-advances : goal.returns-clause-advances
returns-clause-advances g c =
    let system = c.args.system.now in
    goes_on (g.S.Domain.lattice system) (g.S.System.flow system) (g.met.S.System.flows system) c.args.edge c.requires.edge (shown_rows c.args.rows.now) (shown_rows c.take_edge.new.rows) c.requires.settled c.take_edge.result c.if-take_edge.false c.take_edge.ensures.taken
