use Rattle.std.proofs.Common.{◌≡◌, ◌∙◌, false, map, sym, arith}
use Rattle.cob_graph.specs.Listing.{plain_call, plain_span}
use Rattle.cob_graph.specs.Reaching.{has_within}
use Rattle.cob_graph.proofs.ReachLemmas.{has_read, hull_in, hull_out}
use Rattle.cob_graph.proofs.reach.hull_of.Goals as goal
use Rattle.cob_graph.proofs.reach.hull_of.Goals.{then-has, else-has}

pub loop-place-preserved : goal.loop-place-preserved
loop-place-preserved c =
    let cs = c.args.calls.now in
    let s = plain_span c.args.span in
    let l = c.loop-place in
    elim c.if-has.branch [
      | then-has w ↦ hull_in (map plain_call cs) s l.place l.from l.end c.if-has.from c.if-has.end (omega arith) w.end-is l.invariant
      | else-has w ↦
          let out : has_within (map plain_call cs) s l.place ≡ false =
          sym (has_read cs s l.place _ c.loop-place-test.true) ∙ sym c.has.ensures ∙ w.if-has.false in
          hull_out (map plain_call cs) s l.place l.from l.end c.if-has.from c.if-has.end out w.from-is w.end-is l.invariant
    ]
