use Rattle.std.proofs.Common.{Some, None, sym, ap, ◌∙◌}
use Rattle.std.specs.Option.{option_map}
use Rattle.cob_program.specs.ActView.{plain_program}
use Rattle.interval_domain.specs.Rows.{cells_of}
use Rattle.interval_domain.specs.declared.bounds.Interval.{Interval}
use Rattle.cob_graph.specs.declared.homes.Home.TheVariants.{Item as of_item}
use Rattle.transfer_ranges.specs.Kept.{met}
use Rattle.cell_steps.specs.Steps.{table, known_as}
use Rattle.cell_layer.proofs.Tables.{met_is_ordered}
use Rattle.cell_layer.proofs.row.subscripts.index_item.Goals as goal

pub know_item-requires-clause-ordered : goal.know_item-requires-clause-ordered
know_item-requires-clause-ordered c =
    met_is_ordered c.item_units.result c.table.result c.in-Some.units c.met.result c.met.ensures c.in-Some.is

pub returns-in-Some-clause-on : goal.returns-in-Some-clause-on
returns-in-Some-clause-on c = λ told.
    let p = plain_program c.args.program.now in
    let known = known_as p (of_item c.args.item) (cells_of c.args.row.now) in
    ap (option_map known) (sym (ap (λ (i : Interval). met i (table c.args.count)) c.item_units.ensures) ∙ (sym (ap (met c.item_units.result) c.table.ensures) ∙ (sym c.met.ensures ∙ c.in-Some.is)))
    ∙ ap Some (sym c.know_item.ensures.cells)

pub returns-in-None-clause-off : goal.returns-in-None-clause-off
returns-in-None-clause-off c = λ told.
    let p = plain_program c.args.program.now in
    let known = known_as p (of_item c.args.item) (cells_of c.args.row.now) in
    ap (option_map known) (sym (ap (λ (i : Interval). met i (table c.args.count)) c.item_units.ensures) ∙ (sym (ap (met c.item_units.result) c.table.ensures) ∙ (sym c.met.ensures ∙ c.in-None.is)))
