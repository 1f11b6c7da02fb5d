use Rattle.std.proofs.Common.{◌≡◌, Some, sym, ap, ◌∙◌}
use Rattle.std.specs.Option.{option_map}
use Rattle.cob_program.specs.ActView.{plain_act, plain_program}
use Rattle.cob_program.specs.Values.{◌>>=◌}
use Rattle.transfer_ranges.specs.AmountView.{plain_amount}
use Rattle.transfer_ranges.specs.Stores.{operands}
use Rattle.interval_domain.specs.Rows.{cells_of}
use Rattle.transfer_ranges.specs.EdgeOperands.{edge_amount}
use Rattle.cell_steps.specs.Stores.{range_at}
use Rattle.cell_layer.proofs.ShortBounds.{bounded}
use Rattle.cell_layer.proofs.ShortAnswers.{operands_are, edge_is_small}
use Rattle.cell_layer.proofs.row.sums.operands.Goals as goal

pub operands-requires-clause-bounded : goal.operands-requires-clause-bounded
operands-requires-clause-bounded c = bounded (plain_program c.args.program.now) (cells_of c.args.row.now) c.requires.fits

pub operands-requires-clause-small : goal.operands-requires-clause-small
operands-requires-clause-small c =
    edge_is_small (plain_program c.args.program.now) (plain_amount c.in-Some.amount) (plain_act c.args.act.now) c.args.action
    (sym c.edge_amount.ensures ∙ ap (option_map plain_amount) c.in-Some.is) c.requires.sum c.requires.sender

pub returns-in-Some : goal.returns-in-Some
returns-in-Some c =
    let p = plain_program c.args.program.now in
    let cells = cells_of c.args.row.now in
    let a = plain_act c.args.act.now in
    let y = plain_amount c.in-Some.amount in
    let is : edge_amount a c.args.action ≡ Some y = sym c.edge_amount.ensures ∙ ap (option_map plain_amount) c.in-Some.is in
    let small = edge_is_small p y a c.args.action is c.requires.sum c.requires.sender in
    c.operands.ensures ∙ (operands_are p cells y small ∙ sym (ap (λ o. o >>= operands (range_at p cells)) is))
