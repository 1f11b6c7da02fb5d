use Rattle.std.proofs.Common.{length}
use Rattle.diff_layer.proofs.pack.ends.+end_is_shown.Given as goal

abbrev pub decreases-end_is_shown : goal.decreases-end_is_shown
decreases-end_is_shown l = length l.plans.now
