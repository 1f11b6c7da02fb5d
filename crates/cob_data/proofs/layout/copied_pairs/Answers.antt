use Rattle.cob_data.proofs.StepLemmas.{copied_step}
use Rattle.cob_data.proofs.layout.copied_pairs.Goals as goal

pub loop-pair-preserved : goal.loop-pair-preserved
loop-pair-preserved c = copied_step c.args.pairs.now c.loop-pair.pair-index c.pair-item.result c.loop-pair.copies.items _ _ c.loop-pair-test.true c.pair-item.is c.in_ok-copied.ensures c.in_ok-push.ensures.items c.loop-pair.invariant
