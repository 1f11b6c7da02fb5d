use Rattle.std.proofs.Common.{sym, subst}
use Rattle.cob_program.specs.ActView.{plain_act, plain_program}
use Rattle.cell_steps.specs.Seen.{Seen}
use Rattle.cell_layer.specs.Kept.{seen}
use Rattle.cell_layer.specs.Walks.{CanStep}
use Rattle.cell_layer.proofs.Stepping.{taken_can}
use Rattle.cell_layer.proofs.edge.kept.taken.Goals as goal

pub returns-clause-can : goal.returns-clause-can
returns-clause-can c =
    let x = c.args in
    let p = plain_program x.program.now in
    let a = plain_act x.act.now in
    subst (λ (s : Seen). CanStep p a x.action s) (sym c.take.ensures.same) (taken_can p a x.action (seen x.row.now x.kept) c.requires.can)
