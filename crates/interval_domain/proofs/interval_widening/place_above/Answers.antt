use Rattle.std.proofs.Common.{to_z, of_z}
use Rattle.std.specs.Int.{w128}
use Rattle.interval_domain.proofs.Nearest.{step_above}
use Rattle.interval_domain.proofs.interval_widening.place_above.Goals as goal

pub loop-k-preserved : goal.loop-k-preserved
loop-k-preserved c = record {
  within = c.nearer_above-nearest.ensures.within;
  above = c.nearer_above-nearest.ensures.above;
  nearest = step_above c.args.thresholds.now (to_z w128 (of_z w128 c.args.z)) c.loop-k.nearest c.loop-k.k c.nearer_above-nearest.result c.loop-k.invariant.nearest c.nearer_above-nearest.ensures.kept c.nearer_above-nearest.ensures.taken;
}
