use Rattle.std.proofs.Common.{◌≤◌, List, ap, subst, sym, ◌∙◌}
use Rattle.std.specs.List.{All, AllByRecursion, flat_map}
use Rattle.std.proofs.lemmas.List.Elements.{All-from_recursion}
use Rattle.std.proofs.lemmas.List.Folds.{flat_map-map}
use Rattle.diff_bounds.specs.declared.Pack.{Pack}
use Rattle.cert_text.specs.declared.cert.Element.{Element}
use Rattle.cert_text.specs.View.{place_of, view}
use Rattle.cert_text.specs.MatrixClaims.{HasFittingBounds, cells_in, claimed_row, sizes_of}
use Rattle.cert_check.proofs.PackNumbers.{bounds_all}
use Rattle.cert_check.proofs.bounds.ClaimedBounds.new.Goals as goal

pub rows_of-requires-clause-small : goal.rows_of-requires-clause-small
rows_of-requires-clause-small c =
    subst (λ ps. AllByRecursion (λ n. n ≤ 8) (sizes_of (cells_in ps))) (sym c.as_slice.ensures.value)
    (c.allowed_claims_fit.ensures (view c.args.cert.now) c.requires.allowed).0

pub rows_of-requires-clause-bounds : goal.rows_of-requires-clause-bounds
rows_of-requires-clause-bounds c =
    let cert = view c.args.cert.now in
    subst (λ ps. All (λ place. HasFittingBounds (cells_in ps) (place_of place)) c.as_slice-2.result.now) (sym c.as_slice.ensures.value)
    (subst (All (λ place. HasFittingBounds cert.packs (place_of place))) (sym c.as_slice-2.ensures.value)
    (All-from_recursion (λ place. HasFittingBounds cert.packs (place_of place)) c.args.cert.now.nodes.items
    (bounds_all cert.cells cert.packs c.args.cert.now.nodes.items c.requires.allowed.each_node)))

pub invariant_of-result : goal.invariant_of-result
invariant_of-result c =
    let row = λ (packs : List Pack) (place : Element). claimed_row (sizes_of (cells_in packs)) (place_of place) in
    let cert = c.args.cert.now in
    record {
      width_is = c.requires.words;
      claimed = c.in_ok-words.ensures
          ∙ ap (λ (packs : List Pack). flat_map (row packs) c.as_slice-2.result.now) c.as_slice.ensures.value
          ∙ ap (flat_map (row cert.packs.items)) c.as_slice-2.ensures.value
          ∙ sym (flat_map-map (claimed_row (sizes_of (cells_in cert.packs.items))) place_of cert.nodes.items);
    }
