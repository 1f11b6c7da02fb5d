use Rattle.std.proofs.Common.{map, ap, sym, ◌∙◌, subst}
use Rattle.std.specs.List.{All}
use Rattle.cob_program.specs.ActView.{plain_program}
use Rattle.cell_steps.specs.OwnRanges.{own_range}
use Rattle.cell_ranges.specs.Ranges.{IsShort}
use Rattle.cell_ranges.proofs.Sources.{graph_cells_short, graph_ranges}
use Rattle.layer_driver.proofs.cases.answer_over_graph.Goals as goal

pub own_ranges-requires : goal.own_ranges-requires
own_ranges-requires c =
    subst (All IsShort) (sym c.get.ensures) (graph_cells_short (plain_program c.args.program.now) c.args.graph.now c.requires.source)

pub answer_by_ranges-requires-clause-ranges : goal.answer_by_ranges-requires-clause-ranges
answer_by_ranges-requires-clause-ranges c =
    c.as_slice-2.ensures.value ∙ c.in_ok-ranges.ensures.value ∙ ap (map own_range) c.get.ensures
    ∙ graph_ranges (plain_program c.args.program.now) c.args.graph.now c.requires.source
