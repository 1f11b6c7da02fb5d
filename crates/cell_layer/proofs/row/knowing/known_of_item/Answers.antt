use Rattle.cob_program.specs.ActView.{plain_program}
use Rattle.cob_graph.specs.declared.homes.Home.TheVariants.{Item as of_item}
use Rattle.interval_domain.specs.Rows.{cells_of}
use Rattle.cell_layer.proofs.CellNumbers.{number_fits, known_by_number}
use Rattle.cell_layer.proofs.row.knowing.known_of_item.Goals as goal

pub known_in-requires-clause-within : goal.known_in-requires-clause-within
known_in-requires-clause-within c =
    let p = plain_program c.args.program.now in
    number_fits p c.args.cells.now c.args.row.now (of_item c.args.place) c.cell_of.result c.requires (c.cell_of.ensures p c.requires.cells_are)

pub returns-clause-value : goal.returns-clause-value
returns-clause-value c =
    let p = plain_program c.args.program.now in
    known_by_number p (of_item c.args.place) (cells_of c.args.row.now) c.cell_of.result c.known_in.result (c.cell_of.ensures p c.requires.cells_are) c.known_in.ensures.value
