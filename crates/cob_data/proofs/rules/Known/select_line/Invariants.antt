use Rattle.std.proofs.Common.{◌≡◌, take, drop, []}
use Rattle.rule_order.specs.Order.{lesser, least}
use Rattle.cob_data.specs.Rules.{select_lines}
use Rattle.cob_data.proofs.rules.Known.select_line.Given as goal

abbrev pub invariant-loop-place : goal.invariant-loop-place
invariant-loop-place l = lesser l.first (least (select_lines l.rule l.self (take l.place l.self.selects) (drop l.place l.self.selects))) ≡ least (select_lines l.rule l.self [] l.self.selects)
