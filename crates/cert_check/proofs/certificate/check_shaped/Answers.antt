use Rattle.std.proofs.Common.{◌≡◌, ◌≤◌, map, length, ap, sym, ◌∙◌, subst, arith}
use Rattle.std.specs.List.{All}
use Rattle.std.proofs.lemmas.List.{length-map}
use Rattle.cob_program.specs.ActView.{plain_program}
use Rattle.cell_steps.specs.OwnRanges.{own_range}
use Rattle.cert_text.specs.Gaps.{IsSmall}
use Rattle.cell_ranges.specs.Ranges.{IsShort}
use Rattle.cell_ranges.proofs.Sources.{graph_cells_short, graph_ranges}
use Rattle.cert_check.proofs.certificate.check_shaped.Goals as goal
use Rattle.cob_graph.specs.Limits.{most_cells}

pub own_ranges-requires : goal.own_ranges-requires
own_ranges-requires c =
    subst (All IsShort) (sym c.get-cells.ensures) (graph_cells_short (plain_program c.args.program.now) c.args.graph.now c.requires.source)

pub check_rows-requires-clause-given : goal.check_rows-requires-clause-given
check_rows-requires-clause-given c =
    let g = c.args.graph.now in
    let ranges : c.as_slice-2.result.now ≡ map own_range g.cells =
    c.as_slice-2.ensures.value ∙ c.in_ok-owns.ensures.value ∙ ap (map own_range) c.get-cells.ensures in
    let count : length c.as_slice-2.result.now ≡ length g.cells = ap length ranges ∙ length-map g.cells own_range in
    let limit : length g.cells ≤ most_cells = c.requires.limits.cells in
    record {
      source = c.requires.source;
      allowed = c.requires.allowed;
      cells = c.requires.shape.cells;
      nodes = c.requires.shape.nodes;
      few_nodes = c.requires.limits.nodes;
      own = ranges ∙ graph_ranges (plain_program c.args.program.now) g c.requires.source;
      small = subst (All IsSmall) (sym c.as_slice-2.ensures.value) c.in_ok-owns.ensures.small;
      few_cells = omega (arith, count, limit);
    }
