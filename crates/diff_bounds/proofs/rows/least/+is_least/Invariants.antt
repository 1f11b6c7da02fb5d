use Rattle.std.proofs.Common.{length}
use Rattle.diff_bounds.proofs.rows.least.+is_least.Given as goal

abbrev pub decreases-is_least : goal.decreases-is_least
decreases-is_least l = length l.sizes.now
