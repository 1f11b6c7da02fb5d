use Rattle.std.proofs.Common.{◌≡◌, drop}
use Rattle.rule_order.specs.Order.{lesser, least}
use Rattle.cob_data.specs.Rules.{condition_lines}
use Rattle.cob_data.proofs.rules.Known.condition_line.Given as goal

abbrev pub invariant-loop-place : goal.invariant-loop-place
invariant-loop-place l = lesser l.first (least (condition_lines l.rule l.self (drop l.place l.self.conditions))) ≡ least (condition_lines l.rule l.self l.self.conditions)
