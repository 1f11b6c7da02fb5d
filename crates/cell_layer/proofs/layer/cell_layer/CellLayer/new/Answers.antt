use Rattle.std.proofs.Common.{◌≤◌, ◌∙◌, length, sym, ap, subst, arith}
use Rattle.std.specs.List.{All}
use Rattle.cob_program.specs.ActView.{plain_program}
use Rattle.cell_steps.specs.OwnRanges.{owns}
use Rattle.cell_layer.specs.Heads.{heads_of}
use Rattle.cell_layer.proofs.Making.{targets_first, targets_last, few_edges, owned_by, few_lists, held_by, sound_items, cells_are}
use Rattle.cell_layer.proofs.layer.cell_layer.CellLayer.new.Goals as goal

pub heads_of-requires-clause-first : goal.heads_of-requires-clause-first
heads_of-requires-clause-first c =
    subst (All (λ x. 1 ≤ x.to)) (sym c.get-2.ensures) (targets_first (plain_program c.args.program.now) c.args.graph.now c.requires.source)

pub heads_of-requires-clause-last : goal.heads_of-requires-clause-last
heads_of-requires-clause-last c =
    let g = c.args.graph.now in
    subst (All (λ x. x.to ≤ length c.get.result.now)) (sym c.get-2.ensures)
    (subst (λ nodes. All (λ x. x.to ≤ length nodes) g.edges) (sym c.get.ensures) (targets_last (plain_program c.args.program.now) g c.requires.source))

pub entry_row-requires-clause-sound : goal.entry_row-requires-clause-sound
entry_row-requires-clause-sound c = sound_items (plain_program c.args.program.now) c.args.graph.now c.requires.source

pub entry_row-requires-clause-cells : goal.entry_row-requires-clause-cells
entry_row-requires-clause-cells c = c.get-3.ensures ∙ cells_are (plain_program c.args.program.now) c.args.graph.now c.requires.source

pub entry_row-requires-clause-few : goal.entry_row-requires-clause-few
entry_row-requires-clause-few c = let same = ap length c.get-3.ensures in omega (arith, same, c.requires.cells)

pub invariant_of-result : goal.invariant_of-result
invariant_of-result c =
    let p = plain_program c.args.program.now in
    let g = c.args.graph.now in
    let source = c.requires.source in
    let lists = c.args.thresholds.now in
    record {
      held = held_by p g source c.in_ok-works.works (ap plain_program c.in_ok-works.ensures.program) c.in_ok-works.ensures.graph;
      ends = ∣ c.requires.ends ∣₁;
      marked = c.in_ok-heads.ensures ∙ ap (λ nodes. heads_of (length nodes) c.get-2.result.now) c.get.ensures ∙ ap (heads_of (length g.nodes)) c.get-2.ensures;
      begun = c.in_ok-entry.ensures;
      owned = owned_by (owns p) lists c.requires.ends;
      cells = few_lists p g source lists c.requires.ends c.requires.cells;
      nodes = c.requires.nodes;
      edges = few_edges p g source c.requires.nodes;
      lists = c.requires.lists;
    }
