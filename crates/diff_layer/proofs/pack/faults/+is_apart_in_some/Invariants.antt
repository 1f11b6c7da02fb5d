use Rattle.std.proofs.Common.{length}
use Rattle.diff_layer.proofs.pack.faults.+is_apart_in_some.Given as goal

abbrev pub decreases-is_apart_in_some : goal.decreases-is_apart_in_some
decreases-is_apart_in_some l = length l.plans.now
