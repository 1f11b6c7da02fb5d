use Rattle.cob_data.proofs.StepLemmas.{copied_step}
use Rattle.cob_data.proofs.layout.copied_files.Goals as goal

pub loop-file-preserved : goal.loop-file-preserved
loop-file-preserved c = copied_step c.args.files.now c.loop-file.file-index c.file-item.result c.loop-file.copies.items _ _ c.loop-file-test.true c.file-item.is c.in_ok-copied.ensures c.in_ok-push.ensures.items c.loop-file.invariant
