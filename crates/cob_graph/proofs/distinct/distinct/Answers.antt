use Rattle.std.proofs.Common.{map}
use Rattle.cob_graph.specs.Listing.{plain_call}
use Rattle.cob_graph.proofs.CoverLemmas.{covers_more}
use Rattle.cob_graph.proofs.distinct.distinct.Goals as goal

pub loop-call-preserved : goal.loop-call-preserved
loop-call-preserved c =
    let l = c.loop-call in
    covers_more c.args.calls.now l.call-index _ (map plain_call l.kept.items) _ c.loop-call-test.true l.invariant c.in_ok-add.ensures
