use Rattle.std.proofs.Common.{length}
use Rattle.diff_bounds.proofs.rows.widening.+widen_each.Given as goal

abbrev pub decreases-widen_each : goal.decreases-widen_each
decreases-widen_each l = length l.sizes.now
