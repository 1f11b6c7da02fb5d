use Rattle.std.proofs.Common.{◌<◌, ◌∙◌, List, length, sym, ap, subst}
use Rattle.std.specs.Prelude.{IfSome}
use Rattle.std.specs.List.{All}
use Rattle.cob_data.specs.declared.layout.Item.{Item}
use Rattle.cob_program.specs.ActView.{plain_program}
use Rattle.cob_runs.specs.declared.action.Cell.{Cell}
use Rattle.cob_graph.specs.Numbers.{items_of}
use Rattle.interval_domain.specs.Rows.{cells_of}
use Rattle.cell_steps.specs.Cells.{is_in_extent}
use Rattle.cell_layer.specs.Forgetting.{has_bytes, forgotten_by}
use Rattle.cell_layer.proofs.Forgotten.{as_wide, cells_within, forgotten_of, forgotten_row}
use Rattle.cell_layer.proofs.row.forgetting.forget_extent.Goals as goal

pub forget-requires-clause-whole : goal.forget-requires-clause-whole
forget-requires-clause-whole c = as_wide (plain_program c.args.program.now) c.args.cells.now c.args.row.now c.requires

pub forget-requires-clause-within : goal.forget-requires-clause-within
forget-requires-clause-within c =
    subst (λ (is_ : List Item). All (λ (x : Cell). IfSome x.item (λ place. place < length is_)) c.args.cells.now) (sym c.get.ensures)
    (cells_within (plain_program c.args.program.now) c.args.cells.now c.requires.cells_are)

pub returns-clause-cells : goal.returns-clause-cells
returns-clause-cells c =
    let x = c.args in
    c.forget.ensures.cells
    ∙ (ap (λ (is_ : List Item). forgotten_by (has_bytes is_ x.extent.now) (items_of x.cells.now) (cells_of x.row.now)) c.get.ensures
    ∙ forgotten_of (plain_program x.program.now) x.cells.now x.row.now x.extent.now c.requires)

pub returns-clause-row : goal.returns-clause-row
returns-clause-row c =
    let x = c.args in
    let p = plain_program x.program.now in
    forgotten_row p x.cells.now x.row.now c.forget.new.row (is_in_extent x.program.now.layout x.extent.now) c.requires
    (c.forget.ensures.cells
    ∙ (ap (λ (is_ : List Item). forgotten_by (has_bytes is_ x.extent.now) (items_of x.cells.now) (cells_of x.row.now)) c.get.ensures
    ∙ forgotten_of p x.cells.now x.row.now x.extent.now c.requires)) c.forget.ensures.reached
