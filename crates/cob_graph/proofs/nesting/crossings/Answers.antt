use Rattle.std.proofs.Common.{◌≡◌, ◌∙◌, ap, map, length, arith}
use Rattle.std.proofs.lemmas.List.{length-map}
use Rattle.cob_graph.specs.Listing.{plain_call}
use Rattle.cob_graph.specs.Broken.{least_below, crossing_at}
use Rattle.cob_graph.proofs.LeastLemmas.{noted_more, crossing_read}
use Rattle.cob_graph.proofs.nesting.crossings.Goals as goal

pub loop-place-preserved : goal.loop-place-preserved
loop-place-preserved c =
    let cs = c.args.calls.now in
    let l = c.loop-place in
    noted_more (crossing_at (map plain_call cs) c.args.outer) l.place l.least _ _ _ l.invariant c.noted-least.ensures
    (crossing_read cs c.args.row.now c.args.outer l.place _ _ _ c.requires.row c.requires.outer c.loop-place-test.true c.reaches_across-crosses.ensures)

pub returns : goal.returns
returns c =
    let cs = c.args.calls.now in
    let past : c.loop-place.place ≡ length (map plain_call cs) = omega (arith, length-map cs plain_call) in
    c.loop-place.invariant ∙ ap (least_below (crossing_at (map plain_call cs) c.args.outer)) past
