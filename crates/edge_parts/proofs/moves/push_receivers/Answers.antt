use Rattle.std.proofs.Common.{ap, arith}
use Rattle.std.proofs.lemmas.List.{drop_all, drop_more}
use Rattle.cob_edge_parts.specs.Parts.{receivers_parts}
use Rattle.edge_parts.specs.PartView.{plain_part}
use Rattle.edge_parts.proofs.HandingLaws.{leads_on, leads_out, leads_past}
use Rattle.edge_parts.proofs.moves.push_receivers.Goals as goal

pub loop-place-preserved : goal.loop-place-preserved
loop-place-preserved c =
    leads_on plain_part _ _ _ _ _ _ _ (ap (receivers_parts c.args.layout.now c.args.from.now) (drop_more c.args.to.now c.loop-place.place-index 0 c.loop-place-test.true)) c.loop-place.invariant c.in_ok-push_receiver.ensures

pub returns-in_err-push_receiver : goal.returns-in_err-push_receiver
returns-in_err-push_receiver c =
    rw c.from_residual.ensures
    (leads_out plain_part _ _ _ _ _ _ _ (ap (receivers_parts c.args.layout.now c.args.from.now) (drop_more c.args.to.now c.loop-place.place-index 0 c.loop-place-test.true)) c.loop-place.invariant c.in_err-push_receiver.ensures)

pub returns : goal.returns
returns c =
    leads_past plain_part _ _ _ _ (ap (λ ys. receivers_parts c.args.layout.now c.args.from.now ys) (drop_all c.loop-place.place-index c.args.to.now (omega arith))) c.loop-place.invariant
