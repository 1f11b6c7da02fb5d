use Rattle.std.proofs.Common.{sym, ap, ◌∙◌}
use Rattle.cob_program.specs.ActView.{plain_body}
use Rattle.cob_program.proofs.ActViews.{perform_is, write_is}
use Rattle.transfer_ranges.specs.EdgeOperands.{edge_amount}
use Rattle.transfer_ranges.proofs.edge_operands.edge_amount.Goals as goal

pub returns-in-Perform : goal.returns-in-Perform
returns-in-Perform c =
    let x = c.in-Perform in
    c.turns_amount.ensures (plain_body x.body)
    ∙ sym (ap (λ a. edge_amount a c.args.action) (perform_is c.args.act.now x.body x.turns x.is))

pub returns-in-Write : goal.returns-in-Write
returns-in-Write c =
    let x = c.in-Write in
    c.from_amount.ensures x.rec c.args.action
    ∙ sym (ap (λ a. edge_amount a c.args.action) (write_is c.args.act.now x.rec x.from x.is))
