use Rattle.std.proofs.Common.{◌≡◌, drop}
use Rattle.rule_order.specs.Order.{lesser, least}
use Rattle.cob_typed.specs.Answer.{lines_in}
use Rattle.cob_typed.proofs.typing.first_line.Given as goal

abbrev pub invariant-loop-finding : goal.invariant-loop-finding
invariant-loop-finding l = lesser l.first (least (lines_in (drop l.finding-index l.findings) l.rule)) ≡ least (lines_in l.findings l.rule)
