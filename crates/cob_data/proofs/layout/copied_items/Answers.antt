use Rattle.cob_data.proofs.StepLemmas.{copied_step}
use Rattle.cob_data.proofs.layout.copied_items.Goals as goal

pub loop-item-preserved : goal.loop-item-preserved
loop-item-preserved c = copied_step c.args.items.now c.loop-item.item-index c.item-item.result c.loop-item.copies.items _ _ c.loop-item-test.true c.item-item.is c.in_ok-copied.ensures c.in_ok-push.ensures.items c.loop-item.invariant
