use Rattle.std.proofs.Common.{◌∙◌, sym, ap}
use Rattle.std.proofs.lemmas.List.{drop_all}
use Rattle.rule_order.specs.Order.{lesser, least}
use Rattle.rule_order.proofs.OrderLemmas.{lesser_none}
use Rattle.cob_typed.specs.Answer.{lines_in}
use Rattle.cob_typed.proofs.typing.first_line.Goals as goal

pub returns : goal.returns
returns c =
    let l = c.loop-finding in
    sym (ap (λ fs. lesser l.first (least (lines_in fs c.args.rule))) (drop_all l.finding-index c.args.findings.now c.loop-finding-test.false) ∙ lesser_none l.first) ∙ l.invariant
