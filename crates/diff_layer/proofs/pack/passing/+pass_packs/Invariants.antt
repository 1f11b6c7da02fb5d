use Rattle.std.proofs.Common.{length}
use Rattle.diff_layer.proofs.pack.passing.+pass_packs.Given as goal

abbrev pub decreases-pass_packs : goal.decreases-pass_packs
decreases-pass_packs l = length l.plans.now
