use Rattle.cob_program.specs.ActView.{plain_program}
use Rattle.interval_domain.specs.Rows.{cells_of}
use Rattle.cell_layer.proofs.CounterRanges.{count_is_small}
use Rattle.cell_layer.proofs.edge.counting.count_down_fits.Goals as goal

pub lowered-requires-clause-low : goal.lowered-requires-clause-low
lowered-requires-clause-low c =
    let x = c.args in
    (count_is_small (plain_program x.program.now) (cells_of x.row.now) x.statement c.count_units-units.result c.requires.fits c.count_units-units.ensures).0

pub lowered-requires-clause-high : goal.lowered-requires-clause-high
lowered-requires-clause-high c =
    let x = c.args in
    (count_is_small (plain_program x.program.now) (cells_of x.row.now) x.statement c.count_units-units.result c.requires.fits c.count_units-units.ensures).1
