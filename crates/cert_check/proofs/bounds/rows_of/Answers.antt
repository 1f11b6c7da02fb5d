use Rattle.std.proofs.Common.{ap, ◌∙◌}
use Rattle.std.specs.List.{flat_map}
use Rattle.std.proofs.lemmas.List.{take_all}
use Rattle.cert_text.specs.View.{place_of}
use Rattle.cert_text.specs.MatrixClaims.{cells_in, claimed_row, sizes_of}
use Rattle.cert_check.proofs.Taking.{joined_more}
use Rattle.cert_check.proofs.bounds.rows_of.Goals as goal

pub loop-place-preserved : goal.loop-place-preserved
loop-place-preserved c =
    let l = c.loop-place in (
      joined_more (λ place. claimed_row (sizes_of (cells_in c.args.packs.now)) (place_of place)) c.args.places.now l.place-index c.place-item.result l.words.items _
          c.loop-place-test.true c.place-item.is l.invariant.0 c.in_ok-push_row.ensures.added,
      c.push_row.ensures.room ∙ l.invariant.1,
    )

pub returns : goal.returns
returns c =
    let l = c.loop-place in
    l.invariant.0
    ∙ ap (flat_map (λ place. claimed_row (sizes_of (cells_in c.args.packs.now)) (place_of place))) (take_all l.place-index c.args.places.now c.loop-place-test.false)
