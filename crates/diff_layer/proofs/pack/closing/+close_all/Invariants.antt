use Rattle.std.proofs.Common.{length}
use Rattle.diff_layer.proofs.pack.closing.+close_all.Given as goal

abbrev pub decreases-close_all : goal.decreases-close_all
decreases-close_all l = length l.plans.now
