use Rattle.std.proofs.Common.{ap, ◌∙◌}
use Rattle.transfer_ranges.specs.AmountView.{plain_amount}
use Rattle.cell_steps.specs.Seen.{Seen}
use Rattle.cell_layer.specs.Latest.{outcome}
use Rattle.cell_layer.specs.RowWalks.{program_in, act_done, moment}
use Rattle.cell_layer.proofs.SmallEdges.{all_is_taken}
use Rattle.cell_layer.proofs.edge.row_walk.Walk.put.Goals as goal

pub returns-clause-latest : goal.returns-clause-latest
returns-clause-latest c =
    let x = c.args in
    let s = x.self.now in
    let p = program_in s in
    let a = act_done s in
    c.store.ensures.latest
    ∙ ap (λ (t : Seen). outcome p a s.action t x.place x.mode (plain_amount x.amount))
    (c.with_operands-self.ensures.same ∙ all_is_taken p a s.action c.requires.small.sender (moment s))
