use Rattle.std.proofs.Common.{length}
use Rattle.cob_step.proofs.files.+open_each.Given as goal

abbrev pub decreases-open_each : goal.decreases-open_each
decreases-open_each l = length l.files.now
