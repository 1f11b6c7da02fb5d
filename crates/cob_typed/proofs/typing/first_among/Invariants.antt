use Rattle.std.proofs.Common.{◌≡◌, drop}
use Rattle.rule_order.specs.Order.{first_broken}
use Rattle.cob_typed.specs.Answer.{lines_in}
use Rattle.cob_typed.proofs.typing.first_among.Given as goal

abbrev pub invariant-loop-rule : goal.invariant-loop-rule
invariant-loop-rule l = first_broken (lines_in l.findings) (drop l.rule-index l.rules) ≡ first_broken (lines_in l.findings) l.rules
