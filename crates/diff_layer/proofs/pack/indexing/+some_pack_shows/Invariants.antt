use Rattle.std.proofs.Common.{length}
use Rattle.diff_layer.proofs.pack.indexing.+some_pack_shows.Given as goal

abbrev pub decreases-some_pack_shows : goal.decreases-some_pack_shows
decreases-some_pack_shows l = length l.plans.now
