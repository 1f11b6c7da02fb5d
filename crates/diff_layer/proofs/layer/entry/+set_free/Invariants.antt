use Rattle.std.proofs.Common.{length}
use Rattle.diff_layer.proofs.layer.entry.+set_free.Given as goal

abbrev pub decreases-set_free : goal.decreases-set_free
decreases-set_free l = length l.sizes.now
