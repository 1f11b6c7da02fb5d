use Rattle.std.proofs.Common.{◌-◌, length}
use Rattle.batch_io.proofs.PutLemmas.{PutSoFar}
use Rattle.batch_io.proofs.whole.put_whole.Given as goal

abbrev pub invariant-loop-put : goal.invariant-loop-put
invariant-loop-put g l = PutSoFar (g.F.Files.state l.initial.files) (g.F.Files.state l.files) l.id l.bytes l.put

abbrev pub decreases-loop-put : goal.decreases-loop-put
decreases-loop-put g l = length l.bytes - l.put
