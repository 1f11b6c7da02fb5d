use Rattle.std.proofs.Common.{Option, subst}
use Rattle.std.specs.Prelude.{IfSome}
use Rattle.edge_parts.specs.PartView.{plain_part}
use Rattle.cell_steps.specs.Seen.{Seen}
use Rattle.cell_layer.specs.RowWalks.{program_in, act_done, moment}
use Rattle.cell_layer.specs.Walks.{CanStep}
use Rattle.cell_layer.proofs.Stepping.{goes_on}
use Rattle.cell_layer.proofs.edge.row_walk.Walk.pass.Goals as goal

pub returns-clause-can : goal.returns-clause-can
returns-clause-can c told =
    let s = c.args.self.now in
    let p = program_in s in
    let a = act_done s in
    subst (λ (o : Option Seen). IfSome o (CanStep p a s.action)) (c.step.ensures.on told)
    (goes_on p a s.action (plain_part c.args.part) (moment s) c.requires.can)
