use Rattle.cob_data.specs.Layouts.{flag_of}
use Rattle.cob_data.proofs.StepLemmas.{mapped_step}
use Rattle.cob_data.proofs.build.flags_of.Goals as goal

pub loop-condition-preserved : goal.loop-condition-preserved
loop-condition-preserved c = mapped_step flag_of c.args.conditions.now c.loop-condition.condition-index c.condition-item.result c.loop-condition.flags.items _ _ c.loop-condition-test.true c.condition-item.is c.in_ok-flag.ensures c.in_ok-push.ensures.items c.loop-condition.invariant
