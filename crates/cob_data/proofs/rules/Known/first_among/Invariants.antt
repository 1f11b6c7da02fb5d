use Rattle.std.proofs.Common.{◌≡◌, drop}
use Rattle.rule_order.specs.Order.{first_broken}
use Rattle.cob_data.specs.Rules.{lines_in}
use Rattle.cob_data.proofs.rules.Known.first_among.Given as goal

abbrev pub invariant-loop-place : goal.invariant-loop-place
invariant-loop-place l = first_broken (lines_in l.self) (drop l.place l.rules) ≡ first_broken (lines_in l.self) l.rules
