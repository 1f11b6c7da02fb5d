use Rattle.std.proofs.Common.{Some, sym, ap, ◌∙◌}
use Rattle.std.specs.Option.{option_map}
use Rattle.cob_program.specs.ActView.{plain_program}
use Rattle.transfer_ranges.specs.Counts.{count_kept}
use Rattle.interval_domain.specs.Rows.{cells_of}
use Rattle.cob_graph.specs.declared.homes.Home.TheVariants.{Count as of_count}
use Rattle.cell_steps.specs.Steps.{known_as}
use Rattle.cell_layer.proofs.CounterRanges.{kept_is_ordered}
use Rattle.cell_layer.proofs.row.counters.guard_count.Goals as goal

pub know_count-requires-clause-ordered : goal.know_count-requires-clause-ordered
know_count-requires-clause-ordered c =
    kept_is_ordered c.args.wanted c.count_units.result c.in-Some.units c.count_kept.result c.count_kept.ensures c.in-Some.is

pub returns-in-Some-clause-on : goal.returns-in-Some-clause-on
returns-in-Some-clause-on c = λ told.
    let p = plain_program c.args.program.now in
    let known = known_as p (of_count c.args.statement) (cells_of c.args.row.now) in
    ap (option_map known) (sym (ap (count_kept c.args.wanted) c.count_units.ensures) ∙ (sym c.count_kept.ensures ∙ c.in-Some.is))
    ∙ ap Some (sym c.know_count.ensures.cells)

pub returns-in-None-clause-off : goal.returns-in-None-clause-off
returns-in-None-clause-off c = λ told.
    let p = plain_program c.args.program.now in
    let known = known_as p (of_count c.args.statement) (cells_of c.args.row.now) in
    ap (option_map known) (sym (ap (count_kept c.args.wanted) c.count_units.ensures) ∙ (sym c.count_kept.ensures ∙ c.in-None.is))
