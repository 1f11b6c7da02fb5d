use Rattle.cob_program.specs.ActView.{plain_program}
use Rattle.cob_graph.specs.declared.homes.Home.TheVariants.{Count as of_count}
use Rattle.interval_domain.specs.Rows.{cells_of}
use Rattle.cell_layer.proofs.CellNumbers.{number_fits, known_by_number}
use Rattle.cell_layer.proofs.row.knowing.known_of_count.Goals as goal

pub known_in-requires-clause-within : goal.known_in-requires-clause-within
known_in-requires-clause-within c =
    let p = plain_program c.args.program.now in
    number_fits p c.args.cells.now c.args.row.now (of_count c.args.statement) c.cell_of_count.result c.requires c.cell_of_count.ensures

pub returns-clause-value : goal.returns-clause-value
returns-clause-value c =
    let p = plain_program c.args.program.now in
    known_by_number p (of_count c.args.statement) (cells_of c.args.row.now) c.cell_of_count.result c.known_in.result c.cell_of_count.ensures c.known_in.ensures.value
