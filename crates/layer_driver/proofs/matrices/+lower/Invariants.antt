use Rattle.std.proofs.Common.{length}
use Rattle.layer_driver.proofs.matrices.+lower.Given as goal

abbrev pub decreases-lower : goal.decreases-lower
decreases-lower l = length l.packs.now
