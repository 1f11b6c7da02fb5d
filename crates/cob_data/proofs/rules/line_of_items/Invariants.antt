use Rattle.std.proofs.Common.{◌≡◌, drop}
use Rattle.rule_order.specs.Order.{lesser, least}
use Rattle.cob_data.specs.Rules.{item_lines}
use Rattle.cob_data.proofs.rules.line_of_items.Given as goal

abbrev pub invariant-loop-place : goal.invariant-loop-place
invariant-loop-place l = lesser l.first (least (item_lines l.rule (drop l.place l.items) (drop l.place l.spots))) ≡ least (item_lines l.rule l.items l.spots)
