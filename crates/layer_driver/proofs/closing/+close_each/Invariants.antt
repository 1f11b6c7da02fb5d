use Rattle.std.proofs.Common.{length}
use Rattle.layer_driver.proofs.closing.+close_each.Given as goal

abbrev pub decreases-close_each : goal.decreases-close_each
decreases-close_each l = length l.packs.now
