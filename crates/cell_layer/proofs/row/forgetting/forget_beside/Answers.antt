use Rattle.std.proofs.Common.{sym, ap, ◌∙◌}
use Rattle.std.specs.Option.{option_copied}
use Rattle.cob_data.specs.declared.extent.Extent.{Extent}
use Rattle.cob_data.specs.Occurrences.{extent_of}
use Rattle.cob_program.specs.ActView.{plain_program}
use Rattle.cob_graph.specs.Homes.{homes_of}
use Rattle.interval_domain.specs.Rows.{cells_of}
use Rattle.cell_steps.specs.Cells.{forgotten, is_in_extent, is_beside}
use Rattle.cell_layer.proofs.Forgotten.{nothing_beside, forgotten_row}
use Rattle.cell_layer.proofs.MarkedCells.{beside_item, marked_are_forgotten, marks_as_wide}
use Rattle.cell_layer.proofs.row.forgetting.forget_beside.Goals as goal

pub returns-in-None-clause-cells : goal.returns-in-None-clause-cells
returns-in-None-clause-cells c =
    let x = c.args in
    nothing_beside x.program.now.layout x.place (homes_of (plain_program x.program.now)) (cells_of x.row.now)
    (sym c.item_at.ensures ∙ ap option_copied c.in-None.is)

pub returns-in-None-item_marks-clause-cells : goal.returns-in-None-item_marks-clause-cells
returns-in-None-item_marks-clause-cells c =
    let x = c.args in
    let p = plain_program x.program.now in
    c.forget_extent.ensures.cells
    ∙ (ap (λ (e : Extent). forgotten (is_in_extent p.layout e) (homes_of p) (cells_of x.row.now)) c.extent.ensures
    ∙ beside_item p.layout x.place (option_copied c.item_at.result) c.in-Some.item.now (homes_of p) (cells_of x.row.now) c.item_at.ensures (ap option_copied c.in-Some.is))

pub forget_marked-requires-clause-whole : goal.forget_marked-requires-clause-whole
forget_marked-requires-clause-whole c =
    let x = c.args in
    let p = plain_program x.program.now in
    let i = c.in-Some.item.now in
    marks_as_wide p x.cells.now x.row.now (extent_of i) c.in-Some-item_marks.marked.now c.requires.row
    (c.in-Some-item_marks.ensures i (sym c.item_at.ensures ∙ ap option_copied c.in-Some.is))

pub returns-in-Some-item_marks-clause-cells : goal.returns-in-Some-item_marks-clause-cells
returns-in-Some-item_marks-clause-cells c =
    let x = c.args in
    let p = plain_program x.program.now in
    let i = c.in-Some.item.now in
    c.forget_marked.ensures.cells
    ∙ (marked_are_forgotten p x.cells.now x.row.now (extent_of i) c.in-Some-item_marks.marked.now c.requires.row
    (c.in-Some-item_marks.ensures i (sym c.item_at.ensures ∙ ap option_copied c.in-Some.is))
    ∙ beside_item p.layout x.place (option_copied c.item_at.result) i (homes_of p) (cells_of x.row.now) c.item_at.ensures (ap option_copied c.in-Some.is))

pub returns-in-Some-item_marks-clause-row : goal.returns-in-Some-item_marks-clause-row
returns-in-Some-item_marks-clause-row c =
    let x = c.args in
    let p = plain_program x.program.now in
    let i = c.in-Some.item.now in
    forgotten_row p x.cells.now x.row.now c.forget_marked.new.row (is_beside p.layout x.place) c.requires.row
    (c.forget_marked.ensures.cells
    ∙ (marked_are_forgotten p x.cells.now x.row.now (extent_of i) c.in-Some-item_marks.marked.now c.requires.row
    (c.in-Some-item_marks.ensures i (sym c.item_at.ensures ∙ ap option_copied c.in-Some.is))
    ∙ beside_item p.layout x.place (option_copied c.item_at.result) i (homes_of p) (cells_of x.row.now) c.item_at.ensures (ap option_copied c.in-Some.is))) c.forget_marked.ensures.reached
