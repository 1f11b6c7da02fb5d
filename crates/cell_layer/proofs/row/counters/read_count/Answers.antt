use Rattle.std.proofs.Common.{Some, ap, ◌∙◌}
use Rattle.cob_program.specs.ActView.{plain_program}
use Rattle.interval_domain.specs.Rows.{cells_of}
use Rattle.cob_graph.specs.declared.homes.Home.TheVariants.{Count as of_count}
use Rattle.cob_graph.specs.Homes.{homes_of}
use Rattle.cell_steps.specs.Cells.{with_known}
use Rattle.cell_layer.proofs.CounterRanges.{count_is_ordered}
use Rattle.cell_layer.proofs.row.counters.read_count.Goals as goal

pub know_count-requires-clause-ordered : goal.know_count-requires-clause-ordered
know_count-requires-clause-ordered c =
    count_is_ordered (plain_program c.args.program.now) (cells_of c.args.row.now) c.args.statement c.count_units-units.result c.requires.fits
    c.count_units-units.ensures

pub returns-clause-cells : goal.returns-clause-cells
returns-clause-cells c =
    let p = plain_program c.args.program.now in
    c.know_count.ensures.cells
    ∙ ap (λ i. with_known (of_count c.args.statement) (Some i) (homes_of p) (cells_of c.args.row.now)) c.count_units-units.ensures
