use Rattle.std.proofs.Common.{map, subst}
use Rattle.std.specs.Prelude.{IfSome}
use Rattle.cob_graph.specs.Listing.{plain_call}
use Rattle.cob_graph.specs.Reaching.{IsRow}
use Rattle.cob_graph.proofs.ReachLemmas.{rows_none, rows_more}
use Rattle.cob_graph.proofs.reach.rows_of.Goals as goal

pub loop-place-init : goal.loop-place-init
loop-place-init c = rows_none (map plain_call c.args.calls.now) c.new-rows.result.items c.new-rows.ensures.items

pub loop-place-preserved : goal.loop-place-preserved
loop-place-preserved c =
    let cs = map plain_call c.args.calls.now in
    let l = c.loop-place in
    rows_more cs l.place l.rows.items c.push.new.self.items c.in_ok-row_if_kept.field-0 l.invariant
    (λ row e. subst (λ r. IfSome r (IsRow cs l.place)) e c.in_ok-row_if_kept.ensures) c.in_ok-push.ensures.items

pub returns : goal.returns
returns c = c.loop-place.invariant.rows
