use Rattle.std.proofs.Common.{length}
use Rattle.cob_step.proofs.files.+close_each.Given as goal

abbrev pub decreases-close_each : goal.decreases-close_each
decreases-close_each l = length l.files.now
