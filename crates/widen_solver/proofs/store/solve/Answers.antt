use Rattle.std.proofs.Common.{ap, sym, subst, arith}
use Rattle.widen_solver.specs.RowsHeld.{shown_rows}
use Rattle.widen_solver.specs.Solving.{IsUnderWay}
use Rattle.widen_solver.proofs.StepsLeft.{within_bound}
use Rattle.widen_solver.proofs.store.solve.Goals as goal

pub returns-clause-at_most : goal.returns-clause-at_most
returns-clause-at_most g c =
    let system = c.args.system.now in let l = g.S.Domain.lattice system in let f = g.S.System.flow system in
    let under_way = subst (λ rows. IsUnderWay l f rows) (sym (ap shown_rows c.take_transfer.ensures.kept)) c.start.ensures.under_way in
    let bound = within_bound l f (g.met.S.Domain.ordered system) (shown_rows c.take_transfer.new.self) under_way in
    omega (arith, c.settle.ensures.at_most, bound)
