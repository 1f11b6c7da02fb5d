use Rattle.std.proofs.Common.{◌∙◌, sym}
use Rattle.cob_data.proofs.AreaLemmas.{area_step}
use Rattle.cob_data.proofs.build.area_start.Goals as goal

pub loop-place-preserved : goal.loop-place-preserved
loop-place-preserved c = area_step c.args.file c.args.items.now c.args.spots.now c.loop-place.place c.index-items-place.result _ c.loop-place-test.true c.requires c.index-items-place.is (sym c.is_record_of.ensures ∙ c.if-is_record_of.false) c.loop-place.invariant
