use Rattle.std.proofs.Common.{refl, sym, ◌∙◌}
use Rattle.cell_layer.specs.ProgramRows.{known_in}
use Rattle.cell_layer.proofs.CellNumbers.{number_fits, known_by_number}
use Rattle.diff_layer.specs.Passed.{program_in, known_before, known_behind}
use Rattle.diff_layer.proofs.pack.passing.is_known_alike.Goals as goal

pub is_numbered_alike-requires-clause-within : goal.is_numbered_alike-requires-clause-within
is_numbered_alike-requires-clause-within c =
    let x = c.args in
    number_fits (program_in x.passed.now) x.passed.now.moment.items.cells.now x.passed.now.moment.items.row.now x.cell.now c.number_of.result x.passed.now.moment.items.row_of c.number_of.ensures

pub is_numbered_alike-requires-clause-too : goal.is_numbered_alike-requires-clause-too
is_numbered_alike-requires-clause-too c =
    let x = c.args in
    number_fits (program_in x.passed.now) x.passed.now.moment.items.cells.now x.passed.now.row.now x.cell.now c.number_of.result x.passed.now.row_of c.number_of.ensures

pub returns : goal.returns
returns c same =
    let x = c.args in
    let p = program_in x.passed.now in
    let k = c.number_of.result in
    sym (known_by_number p x.cell.now (known_before x.passed.now) k (known_in (known_before x.passed.now) k) c.number_of.ensures refl)
    ∙ (c.is_numbered_alike.ensures same
    ∙ known_by_number p x.cell.now (known_behind x.passed.now) k (known_in (known_behind x.passed.now) k) c.number_of.ensures refl)
