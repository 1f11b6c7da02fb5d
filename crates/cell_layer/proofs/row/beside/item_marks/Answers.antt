use Rattle.std.proofs.Common.{sym, ◌∙◌}
use Rattle.cob_program.specs.ActView.{plain_program}
use Rattle.cell_layer.proofs.MarkedCells.{marks_within, item_marks_are}
use Rattle.cell_layer.proofs.row.beside.item_marks.Goals as goal

pub row_at-requires : goal.row_at-requires
row_at-requires c =
    let x = c.args in
    let p = plain_program x.program.now in
    marks_within p x.cells.now c.requires.cells x.place c.in-Some.k (sym (c.cell_of.ensures p c.requires.cells) ∙ c.in-Some.is) x.rows.now c.requires.marks

pub returns-in-Some : goal.returns-in-Some
returns-in-Some c = λ i there.
    let x = c.args in
    let p = plain_program x.program.now in
    item_marks_are p x.cells.now c.requires.cells x.place c.in-Some.k (sym (c.cell_of.ensures p c.requires.cells) ∙ c.in-Some.is) x.rows.now c.requires.marks
    i c.row_at.result.now c.row_at.ensures there
