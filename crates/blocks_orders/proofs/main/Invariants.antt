use Rattle.std.proofs.Common.{◌≡◌}
use Rattle.blocks_orders.proofs.main.Given as goal

abbrev pub invariant-loop-order : goal.invariant-loop-order
invariant-loop-order l = 4 ≡ l.blocks.spare
