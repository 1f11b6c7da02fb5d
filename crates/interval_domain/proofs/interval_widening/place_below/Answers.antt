use Rattle.std.proofs.Common.{to_z, of_z}
use Rattle.std.specs.Int.{w128}
use Rattle.interval_domain.proofs.Nearest.{step_below}
use Rattle.interval_domain.proofs.interval_widening.place_below.Goals as goal

pub loop-k-preserved : goal.loop-k-preserved
loop-k-preserved c = record {
  within = c.nearer_below-nearest.ensures.within;
  below = c.nearer_below-nearest.ensures.below;
  nearest = step_below c.args.thresholds.now (to_z w128 (of_z w128 c.args.z)) c.loop-k.nearest c.loop-k.k c.nearer_below-nearest.result c.loop-k.invariant.nearest c.nearer_below-nearest.ensures.kept c.nearer_below-nearest.ensures.taken;
}
