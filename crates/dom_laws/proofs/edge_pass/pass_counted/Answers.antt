use Rattle.std.proofs.Common.{refl, arith}
use Rattle.dom_laws.proofs.Passing.{kept_all}
use Rattle.dom_laws.proofs.edge_pass.pass_counted.Goals as goal

pub returns-clause-none : goal.returns-clause-none
returns-clause-none g c =
    let system = c.args.system.now in
    let inductive = kept_all (g.S.Domain.lattice system) (g.S.System.flow system) (g.R.Rows.row_at c.args.rows.now) c.loop-index.index c.requires.rows (omega (arith, c.loop-index-test.false, c.edges-index-end.ensures)) c.loop-index.invariant.0 in
    (λ e. inductive, λ i. refl)
