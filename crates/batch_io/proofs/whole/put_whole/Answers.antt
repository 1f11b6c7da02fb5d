use Rattle.std.proofs.Common.{arith}
use Rattle.batch_io.proofs.PutLemmas.{put_more}
use Rattle.batch_io.proofs.whole.put_whole.Goals as goal

pub loop-put-preserved : goal.loop-put-preserved
loop-put-preserved g c =
    put_more _ _ _ _ _ _ _ c.write.result c.write.ensures.call (search arith) c.loop-put.invariant c.requires.created (omega arith)
