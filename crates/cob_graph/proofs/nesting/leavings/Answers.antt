use Rattle.std.proofs.Common.{map}
use Rattle.cob_graph.specs.Listing.{plain_call, plain_jump}
use Rattle.cob_graph.specs.Broken.{leaving_at}
use Rattle.cob_graph.proofs.LeastLemmas.{noted_more, leaving_read}
use Rattle.cob_graph.proofs.nesting.leavings.Goals as goal

pub loop-jump-preserved : goal.loop-jump-preserved
loop-jump-preserved c =
    let cs = c.args.calls.now in
    let js = c.args.jumps.now in
    let l = c.loop-jump in
    noted_more (leaving_at (map plain_call cs) (map plain_jump js) c.args.outer) l.jump-index l.least _ _ _ l.invariant c.noted-least.ensures
    (leaving_read cs js c.args.outer l.jump-index _ _ _ c.requires c.loop-jump-test.true c.leaves.ensures)
