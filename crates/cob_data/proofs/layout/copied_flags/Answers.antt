use Rattle.cob_data.proofs.StepLemmas.{copied_step}
use Rattle.cob_data.proofs.layout.copied_flags.Goals as goal

pub loop-flag-preserved : goal.loop-flag-preserved
loop-flag-preserved c = copied_step c.args.flags.now c.loop-flag.flag-index c.flag-item.result c.loop-flag.copies.items _ _ c.loop-flag-test.true c.flag-item.is c.in_ok-copied.ensures c.in_ok-push.ensures.items c.loop-flag.invariant
