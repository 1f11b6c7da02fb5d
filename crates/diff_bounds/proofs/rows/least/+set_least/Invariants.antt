use Rattle.std.proofs.Common.{length}
use Rattle.diff_bounds.proofs.rows.least.+set_least.Given as goal

abbrev pub decreases-set_least : goal.decreases-set_least
decreases-set_least l = length l.sizes.now
