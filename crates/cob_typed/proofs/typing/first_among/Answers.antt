use Rattle.std.proofs.Common.{◌∙◌, sym, ap}
use Rattle.std.proofs.lemmas.List.{drop_all}
use Rattle.rule_order.specs.Order.{first_broken}
use Rattle.cob_typed.specs.Answer.{lines_in}
use Rattle.cob_typed.proofs.typing.first_among.Goals as goal

pub returns : goal.returns
returns c =
    let l = c.loop-rule in
    sym (ap (λ rs. first_broken (lines_in c.args.findings.now) rs) (drop_all l.rule-index c.args.rules.now c.loop-rule-test.false)) ∙ l.invariant
