use Rattle.std.proofs.Common.{◌≤◌, length}
use Rattle.std.specs.List.{AllByRecursion, AllByRecursion-prop}
use Rattle.std.proofs.Props.{props}
use Rattle.std.proofs.Math.Logic.{∥∥₁_elim}
use Rattle.cob_program.specs.ActView.{plain_program}
use Rattle.diff_bounds.specs.PackRows.{lists_of}
use Rattle.cert_text.specs.MatrixClaims.{cells_in, sizes_of}
use Rattle.layer_driver.proofs.LayerRows.{are_small, layer_element}
use Rattle.layer_driver.proofs.cases.answer_in_row.Goals as goal

pub close_case-requires-clause-small : goal.close_case-requires-clause-small
close_case-requires-clause-small c =
    let layer = c.args.layer.now in
    let sizes = sizes_of (cells_in layer.packs.now) in
    ∥∥₁_elim layer.cells (AllByRecursion-prop (λ n. n ≤ 8) (λ n. hlevel props) sizes) (are_small (length layer.graph.now.cells) layer.packs.now)

pub answer_to-requires : goal.answer_to-requires
answer_to-requires c =
    let layer = c.args.layer.now in
    layer_element (plain_program layer.program.now) layer.packs.now (lists_of layer.thresholds.now) c.requires.thresholds _ c.requires.row
