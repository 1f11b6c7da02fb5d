use Rattle.std.proofs.Common.{length}
use Rattle.diff_layer.proofs.pack.passing.+are_known_alike.Given as goal

abbrev pub decreases-are_known_alike : goal.decreases-are_known_alike
decreases-are_known_alike l = length l.pack.now
