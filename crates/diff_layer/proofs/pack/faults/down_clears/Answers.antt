use Rattle.cell_layer.proofs.CounterRanges.{count_is_small}
use Rattle.diff_layer.specs.Views.{program_of, known_in}
use Rattle.diff_layer.proofs.pack.faults.down_clears.Goals as goal

pub lowered-units-requires-clause-low : goal.lowered-units-requires-clause-low
lowered-units-requires-clause-low c =
    let x = c.args in
    (count_is_small (program_of x.moment.now.items) (known_in x.moment.now.items) x.number c.count_units.result x.moment.now.fits c.count_units.ensures).0

pub lowered-units-requires-clause-high : goal.lowered-units-requires-clause-high
lowered-units-requires-clause-high c =
    let x = c.args in
    (count_is_small (program_of x.moment.now.items) (known_in x.moment.now.items) x.number c.count_units.result x.moment.now.fits c.count_units.ensures).1
