use Rattle.std.proofs.Common.{Some}
use Rattle.cob_program.specs.ActView.{plain_program}
use Rattle.cob_graph.specs.declared.homes.Home.TheVariants.{Count as of_count}
use Rattle.interval_domain.specs.Rows.{cells_of}
use Rattle.cell_layer.proofs.CellNumbers.{number_fits, set_by_number, set_row}
use Rattle.cell_layer.proofs.row.knowing.know_count.Goals as goal

pub set_in-requires-clause-within : goal.set_in-requires-clause-within
set_in-requires-clause-within c =
    let p = plain_program c.args.program.now in
    number_fits p c.args.cells.now c.args.row.now (of_count c.args.statement) c.cell_of_count.result c.requires.row c.cell_of_count.ensures

pub returns-clause-cells : goal.returns-clause-cells
returns-clause-cells c =
    let p = plain_program c.args.program.now in
    set_by_number p (of_count c.args.statement) (Some c.args.units) (cells_of c.args.row.now) (cells_of c.set_in.new.row) c.cell_of_count.result c.cell_of_count.ensures
    c.set_in.ensures.cells

pub returns-clause-row : goal.returns-clause-row
returns-clause-row c =
    let p = plain_program c.args.program.now in
    set_row p c.args.cells.now c.args.row.now c.set_in.new.row (of_count c.args.statement) (Some c.args.units) c.requires.row
    (set_by_number p (of_count c.args.statement) (Some c.args.units) (cells_of c.args.row.now) (cells_of c.set_in.new.row) c.cell_of_count.result c.cell_of_count.ensures
    c.set_in.ensures.cells) c.set_in.ensures.reached
