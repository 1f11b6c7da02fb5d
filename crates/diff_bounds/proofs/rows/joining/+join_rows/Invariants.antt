use Rattle.std.proofs.Common.{length}
use Rattle.diff_bounds.proofs.rows.joining.+join_rows.Given as goal

abbrev pub decreases-join_rows : goal.decreases-join_rows
decreases-join_rows l = length l.sizes.now
