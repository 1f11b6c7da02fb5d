use Rattle.std.proofs.Common.{◌≤◌, length, sym, subst}
use Rattle.std.specs.Prelude.{IfSome}
use Rattle.std.specs.List.{AllByRecursion-prop}
use Rattle.std.proofs.Props.{props}
use Rattle.std.proofs.Math.Logic.{∥∥₁_elim}
use Rattle.cob_program.specs.ActView.{plain_program}
use Rattle.dom_laws.specs.Lattice.{IsElement}
use Rattle.diff_bounds.specs.PackRows.{lists_of}
use Rattle.cert_text.specs.MatrixClaims.{cells_in, sizes_of}
use Rattle.layer_driver.specs.Rows.{rows_of_packs}
use Rattle.layer_driver.proofs.LayerRows.{are_small, layer_width}
use Rattle.layer_driver.proofs.cases.answer_by_layer.Goals as goal

pub row_with-requires-clause-few : goal.row_with-requires-clause-few
row_with-requires-clause-few c = c.args.layer.now.few

pub row_with-requires-clause-small : goal.row_with-requires-clause-small
row_with-requires-clause-small c =
    let layer = c.args.layer.now in
    let sizes = sizes_of (cells_in layer.packs.now) in
    ∥∥₁_elim layer.cells (AllByRecursion-prop (λ n. n ≤ 8) (λ n. hlevel props) sizes) (are_small (length layer.graph.now.cells) layer.packs.now)

pub row_with-requires-clause-width : goal.row_with-requires-clause-width
row_with-requires-clause-width c =
    let layer = c.args.layer.now in
    layer_width (plain_program layer.program.now) layer.packs.now (lists_of layer.thresholds.now) c.requires _ c.words.ensures

pub answer_in_row-requires-clause-row : goal.answer_in_row-requires-clause-row
answer_in_row-requires-clause-row c =
    let layer = c.args.layer.now in
    let is = subst (λ o. IfSome o (λ row. IsElement (rows_of_packs layer.packs.now) row.items)) c.in-Some.is c.in_ok-row.ensures in
    subst (IsElement _) (sym c.as_slice.ensures.value) is
