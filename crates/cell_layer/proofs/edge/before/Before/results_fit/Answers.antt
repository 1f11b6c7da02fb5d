use Rattle.std.proofs.Common.{Bool, true, ap, ◌∙◌}
use Rattle.std.specs.Prelude.{not}
use Rattle.std.specs.Option.{option_map_or}
use Rattle.cob_program.specs.ActView.{plain_program}
use Rattle.cob_runs.specs.Contents.{form_at}
use Rattle.transfer_ranges.specs.AmountView.{plain_amount}
use Rattle.sum_ranges.specs.declared.ranged.Ranged.{Ranged}
use Rattle.transfer_ranges.specs.declared.amounts.Receiver.{Receiver}
use Rattle.transfer_ranges.specs.Receivers.{receiver_of}
use Rattle.transfer_ranges.specs.ResultRanges.{may_fail}
use Rattle.transfer_ranges.specs.EdgeOperands.{amount_of}
use Rattle.cell_layer.proofs.edge.before.Before.results_fit.Goals as goal

pub returns : goal.returns
returns c =
    let x = c.args in
    let fits : Receiver → Ranged → Bool = λ r own. option_map_or (λ t. option_map_or (λ m. not (may_fail x.mode r m)) (amount_of (plain_amount x.amount) own t) true) x.common true in
    c.operands_fit.ensures
    ∙ (ap (λ (r : Receiver). fits r c.item_range-own.result) c.receiver_at-receiver.ensures
    ∙ ap (λ (own : Ranged). fits (receiver_of (form_at (plain_program x.self.now.program.now).layout x.place)) own) c.item_range-own.ensures)
