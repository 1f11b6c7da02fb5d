use Rattle.std.proofs.Common.{sym, ap, ◌∙◌}
use Rattle.std.specs.Option.{option_map}
use Rattle.cob_program.specs.ActView.{plain_program}
use Rattle.transfer_ranges.specs.ResultRanges.{lowered, count_range}
use Rattle.interval_domain.specs.Rows.{cells_of}
use Rattle.cob_graph.specs.declared.homes.Home.TheVariants.{Count as of_count}
use Rattle.cell_steps.specs.Steps.{known_as}
use Rattle.cell_layer.proofs.CounterRanges.{count_is_small}
use Rattle.cell_layer.proofs.row.counters.count_down.Goals as goal

pub lowered-units-requires-clause-low : goal.lowered-units-requires-clause-low
lowered-units-requires-clause-low c =
    (count_is_small (plain_program c.args.program.now) (cells_of c.args.row.now) c.args.statement c.count_units.result c.requires.fits
    c.count_units.ensures).0

pub lowered-units-requires-clause-high : goal.lowered-units-requires-clause-high
lowered-units-requires-clause-high c =
    (count_is_small (plain_program c.args.program.now) (cells_of c.args.row.now) c.args.statement c.count_units.result c.requires.fits
    c.count_units.ensures).1

pub returns-clause-on : goal.returns-clause-on
returns-clause-on c = λ told.
    let p = plain_program c.args.program.now in
    let cells = cells_of c.args.row.now in
    let same = c.lowered-units.ensures ∙ ap lowered c.count_units.ensures in
    sym (ap (λ i. option_map (known_as p (of_count c.args.statement) cells) (count_range i)) same) ∙ c.set_count.ensures.on told

pub returns-clause-off : goal.returns-clause-off
returns-clause-off c = λ told.
    let p = plain_program c.args.program.now in
    let cells = cells_of c.args.row.now in
    let same = c.lowered-units.ensures ∙ ap lowered c.count_units.ensures in
    sym (ap (λ i. option_map (known_as p (of_count c.args.statement) cells) (count_range i)) same) ∙ c.set_count.ensures.off told
