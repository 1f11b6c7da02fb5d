use Rattle.std.proofs.Common.{length}
use Rattle.diff_bounds.proofs.rows.sizes.+height_beside.Given as goal

abbrev pub decreases-height_beside : goal.decreases-height_beside
decreases-height_beside l = length l.sizes.now
