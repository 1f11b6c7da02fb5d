use Rattle.std.proofs.Common.{◌≡◌, ◌∙◌, length, map, arith}
use Rattle.std.proofs.lemmas.List.{length-map}
use Rattle.cob_graph.specs.Listing.{plain_call}
use Rattle.cob_graph.proofs.ReachLemmas.{hulls_none, hulls_more, hull_read}
use Rattle.cob_graph.proofs.reach.hulls_of.Goals as goal

pub loop-call-init : goal.loop-call-init
loop-call-init c = hulls_none (map plain_call c.args.calls.now) c.new-hulls.result.items c.new-hulls.ensures.items

pub loop-call-preserved : goal.loop-call-preserved
loop-call-preserved c =
    let calls = c.args.calls.now in
    let cs = map plain_call calls in
    let l = c.loop-call in
    let i = l.call-index in
    hulls_more cs i l.hulls.items c.push.new.self.items c.hull_of.result l.invariant
    (hull_read calls i _ c.hull_of.result c.loop-call-test.true c.hull_of.ensures) c.in_ok-push.ensures.items

pub returns : goal.returns
returns c =
    let l = c.loop-call in
    let all : l.call-index ≡ length (map plain_call c.args.calls.now) = omega (arith, length-map c.args.calls.now plain_call) in record {
      count = l.invariant.count ∙ all;
      each = λ i d h. l.invariant.each i d (omega (arith, all, h));
    }
