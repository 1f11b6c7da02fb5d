use Rattle.std.proofs.Common.{map, ap, ◌∙◌}
use Rattle.std.proofs.lemmas.List.{take_all}
use Rattle.cert_text.specs.View.{place_of}
use Rattle.cert_text.specs.Claims.{claimed_row}
use Rattle.cert_check.proofs.Taking.{row_pushed}
use Rattle.cert_check.proofs.rows.rows_of.Goals as goal

pub loop-place-preserved : goal.loop-place-preserved
loop-place-preserved c =
    let l = c.loop-place in
    row_pushed (claimed_row c.args.owns.now) c.args.places.now l.place-index c.place-item.result l.rows.items _ _ c.loop-place-test.true c.place-item.is
    c.in_ok-push.ensures.items l.invariant c.in_ok-row_of.ensures

pub returns : goal.returns
returns c =
    let l = c.loop-place in
    l.invariant ∙ ap (λ places. map (claimed_row c.args.owns.now) (map place_of places)) (take_all l.place-index c.args.places.now c.loop-place-test.false)
