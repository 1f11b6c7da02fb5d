use Rattle.std.proofs.Common.{◌≡◌, ℕ, List, ◌-◌, ◌*◌, ◌<◌, length, take, drop, ℤ, ap, sym, ◌∙◌, arith}
use Rattle.cert_text.specs.View.{Certificate, Place, NotReached, view}
use Rattle.cert_text.specs.MatrixClaims.{claimed_row, sizes_of}
use Rattle.cert_check.proofs.RowsBehind.{claimed_width, row_there, row_within}
use Rattle.cert_check.proofs.bounds.ClaimedBoundsRows.row.Goals as goal

pub row_at-requires : goal.row_at-requires
row_at-requires c =
    let rows = c.args.self.now in
    let cert : Certificate = view rows.cert.now in
    let sizes : List ℕ = sizes_of cert.packs in
    let wide : (place : Place) → length (claimed_row sizes place) ≡ rows.width = λ place. claimed_width sizes place ∙ sym rows.width_is in
    let behind : c.args.node - 1 < length cert.nodes = omega (arith, c.requires.first, c.requires.last) in
    let all = ap length (c.as_slice.ensures.value ∙ rows.claimed) in
    record { within = omega (arith, all, row_within (claimed_row sizes) rows.width wide cert.nodes (c.args.node - 1) behind) }

pub returns : goal.returns
returns c =
    let rows = c.args.self.now in
    let cert : Certificate = view rows.cert.now in
    let sizes : List ℕ = sizes_of cert.packs in
    let wide : (place : Place) → length (claimed_row sizes place) ≡ rows.width = λ place. claimed_width sizes place ∙ sym rows.width_is in
    let behind : c.args.node - 1 < length cert.nodes = omega (arith, c.requires.first, c.requires.last) in
    c.row_at.ensures
    ∙ ap (λ (words : List ℤ). take rows.width (drop ((c.args.node - 1) * rows.width) words)) (c.as_slice.ensures.value ∙ rows.claimed)
    ∙ row_there (claimed_row sizes) rows.width wide cert.nodes (c.args.node - 1) NotReached behind
