use Rattle.std.proofs.Common.{Some, sym, ap, ◌∙◌}
use Rattle.cob_program.specs.ActView.{plain_program}
use Rattle.sum_ranges.specs.declared.ranged.Ranged.{Ranged}
use Rattle.interval_domain.specs.Rows.{cells_of}
use Rattle.cob_graph.specs.declared.homes.Home.TheVariants.{Item as of_item}
use Rattle.cob_graph.specs.Homes.{homes_of}
use Rattle.cell_steps.specs.Cells.{with_known}
use Rattle.cell_layer.proofs.Reading.{great_is_not_read, item_is_ordered}
use Rattle.cell_layer.proofs.row.reads.read_item.Goals as goal

pub know_item-requires-clause-ordered : goal.know_item-requires-clause-ordered
know_item-requires-clause-ordered c =
    item_is_ordered (plain_program c.args.program.now) (cells_of c.args.row.now) c.args.place c.item_range-range.result c.requires.fits
    c.item_range-range.ensures

pub returns-clause-cells : goal.returns-clause-cells
returns-clause-cells c =
    let p = plain_program c.args.program.now in
    c.know_item.ensures.cells
    ∙ ap (λ (r : Ranged). with_known (of_item c.args.place) (Some r.units) (homes_of p) (cells_of c.args.row.now)) c.item_range-range.ensures

pub returns-then-not-is_small_item-clause-cells : goal.returns-then-not-is_small_item-clause-cells
returns-then-not-is_small_item-clause-cells c =
    great_is_not_read (plain_program c.args.program.now) c.args.place (cells_of c.args.row.now) c.requires.small
    (sym c.is_small_item.ensures ∙ c.if-not-is_small_item.true)
