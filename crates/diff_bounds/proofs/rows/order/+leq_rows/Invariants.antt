use Rattle.std.proofs.Common.{length}
use Rattle.diff_bounds.proofs.rows.order.+leq_rows.Given as goal

abbrev pub decreases-leq_rows : goal.decreases-leq_rows
decreases-leq_rows l = length l.sizes.now
