use Rattle.std.proofs.Common.{[], length, refl, sym, subst, ◌∙◌}
use Rattle.std.specs.Prelude.{IsTrue}
use Rattle.std.proofs.lemmas.List.{length-map}
use Rattle.dom_laws.specs.Lattice.{IsElement}
use Rattle.cert_text.specs.View.{Holds}
use Rattle.cert_text.specs.Allowed.{bounds_fit, no_key}
use Rattle.cert_text.specs.MatrixClaims.{cells_in, sizes_of}
use Rattle.layer_driver.specs.Rows.{no_thresholds, rows_of_packs}
use Rattle.layer_driver.proofs.RowLemmas.{width_for}
use Rattle.layer_driver.proofs.matrices.set_free.Goals as goal

pub set_claimed-requires-clause-width : goal.set_claimed-requires-clause-width
set_claimed-requires-clause-width c = c.requires.width ∙ width_for (sizes_of (cells_in c.args.packs.now))

pub returns : goal.returns
returns c =
    let cells = cells_in c.args.packs.now in
    let fits = subst (λ bounds. IsTrue (bounds_fit cells no_key bounds)) (sym c.new-2.ensures.items) refl in
    let listed = length-map (sizes_of cells) (λ n. []) ∙ length-map cells length in
    subst (IsElement (rows_of_packs c.args.packs.now)) (sym c.set_claimed.ensures)
    (c.claimed_rows_are_elements.ensures cells (no_thresholds (sizes_of cells)) (Holds c.new.result.items c.new-2.result.items) listed fits)
