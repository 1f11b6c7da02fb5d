use Rattle.cob_program.specs.ActView.{plain_program}
use Rattle.cob_graph.specs.declared.homes.Home.TheVariants.{Item as of_item}
use Rattle.interval_domain.specs.Rows.{cells_of}
use Rattle.cell_layer.proofs.CellNumbers.{number_fits, set_by_number, set_row}
use Rattle.cell_layer.proofs.row.knowing.set_item.Goals as goal

pub set_in-requires-clause-within : goal.set_in-requires-clause-within
set_in-requires-clause-within c =
    let p = plain_program c.args.program.now in
    number_fits p c.args.cells.now c.args.row.now (of_item c.args.place) c.cell_of.result c.requires.row (c.cell_of.ensures p c.requires.row.cells_are)

pub returns-clause-cells : goal.returns-clause-cells
returns-clause-cells c =
    let p = plain_program c.args.program.now in
    set_by_number p (of_item c.args.place) c.args.known (cells_of c.args.row.now) (cells_of c.set_in.new.row) c.cell_of.result (c.cell_of.ensures p c.requires.row.cells_are)
    c.set_in.ensures.cells

pub returns-clause-row : goal.returns-clause-row
returns-clause-row c =
    let p = plain_program c.args.program.now in
    set_row p c.args.cells.now c.args.row.now c.set_in.new.row (of_item c.args.place) c.args.known c.requires.row
    (set_by_number p (of_item c.args.place) c.args.known (cells_of c.args.row.now) (cells_of c.set_in.new.row) c.cell_of.result (c.cell_of.ensures p c.requires.row.cells_are)
    c.set_in.ensures.cells) c.set_in.ensures.reached
