use Rattle.cob_typed_verbs.proofs.FileLemmas.{opening_pushed}
use Rattle.cob_typed_verbs.proofs.verbs.add_openings.Goals as goal

pub loop-file-preserved : goal.loop-file-preserved
loop-file-preserved c =
    let l = c.loop-file in
    opening_pushed _ _ l.file-index _ l.list.items c.push.new.self.items _ c.loop-file-test.true c.in_ok-push.ensures.items l.invariant
