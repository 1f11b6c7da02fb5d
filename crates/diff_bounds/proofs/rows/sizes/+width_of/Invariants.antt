use Rattle.std.proofs.Common.{length}
use Rattle.diff_bounds.proofs.rows.sizes.+width_of.Given as goal

abbrev pub decreases-width_of : goal.decreases-width_of
decreases-width_of l = length l.sizes.now
