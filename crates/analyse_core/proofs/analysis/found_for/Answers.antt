use Rattle.std.proofs.Common.{◌≤◌, ◌+◌, List, map, ℤ, ◌∙◌, ap, sym, subst, length}
use Rattle.std.specs.List.{AllByRecursion}
use Rattle.std.proofs.lemmas.List.{length-map}
use Rattle.cob_program.specs.ActView.{plain_program}
use Rattle.cob_graph.specs.Graphs.{cells_of}
use Rattle.interval_domain.specs.Elements.{AreThresholds}
use Rattle.interval_domain.specs.Rows.{lists_of}
use Rattle.cell_steps.specs.OwnRanges.{owns}
use Rattle.analyse_core.specs.Choice.{numbers_of}
use Rattle.analyse_core.specs.PackThresholds.{HasFewCells, HasFewDecimals, thresholds_of_pack}
use Rattle.analyse_core.specs.Literals.{program_literals}
use Rattle.analyse_core.specs.Thresholds.{thresholds_of}
use Rattle.analyse_core.specs.Packs.{ArePacksGiven}
use Rattle.analyse_core.specs.Assignments.{most_steps}
use Rattle.analyse_core.proofs.CellLists.{each_short, lists_short}
use Rattle.analyse_core.proofs.Owned.{thresholds_are}
use Rattle.analyse_core.proofs.PacksGiven.{cell_lists_are_small, cells_have_few_decimals, few_cells, packs_given}
use Rattle.analyse_core.proofs.SamePackLists.{same_pack_lists}
use Rattle.analyse_core.proofs.analysis.found_for.Goals as goal

pub pack_thresholds-requires-clause-decimals : goal.pack_thresholds-requires-clause-decimals
pack_thresholds-requires-clause-decimals g c =
    subst (AllByRecursion HasFewDecimals) (sym c.get.ensures)
    (cells_have_few_decimals (plain_program c.args.program.now) c.args.graph.now c.requires.source)

pub pack_thresholds-requires-clause-lists : goal.pack_thresholds-requires-clause-lists
pack_thresholds-requires-clause-lists g c =
    cell_lists_are_small (plain_program c.args.program.now) c.args.graph.now c.requires.source (lists_of c.as_slice.result.now)
    (ap lists_of c.as_slice.ensures.value ∙ c.in_ok-cell_lists.ensures.value)

pub pack_thresholds-requires-clause-packs : goal.pack_thresholds-requires-clause-packs
pack_thresholds-requires-clause-packs g c =
    subst (λ ps. AllByRecursion HasFewCells (map (λ pack. pack.cells.items) ps)) (sym c.as_slice-2.ensures.value)
    (few_cells (length c.args.graph.now.cells) (map (λ pack. pack.cells.items) c.in_ok-packs.packs.items) c.requires.limits.cells
    (subst (λ n. n ≤ 32) (sym (length-map c.in_ok-packs.packs.items (λ pack. pack.cells.items))) c.in_ok-packs.ensures.few)
    c.in_ok-packs.ensures.fit)

pub new-requires-clause-ends : goal.new-requires-clause-ends
new-requires-clause-ends g c =
    let p = plain_program c.args.program.now in
    subst (λ (ts : List (List ℤ)). AreThresholds (owns p) ts) (sym (ap lists_of c.as_slice-3.ensures.value ∙ c.in_ok-cell_lists.ensures.value))
    (thresholds_are p c.args.graph.now c.requires.source)

pub new-requires-clause-lists : goal.new-requires-clause-lists
new-requires-clause-lists g c = λ k d l.
    let p = plain_program c.args.program.now in
    each_short c.as_slice-3.result.now (thresholds_of p) k d (ap lists_of c.as_slice-3.ensures.value ∙ c.in_ok-cell_lists.ensures.value)
    (lists_short (program_literals p) (cells_of p)) l

pub solve_layers-requires-clause-packs : goal.solve_layers-requires-clause-packs
solve_layers-requires-clause-packs g c =
    let p = plain_program c.args.program.now in
    let graph = c.args.graph.now in
    let cell_lists = c.as_slice.result.now in
    let given = c.in_ok-packs.ensures in
    let lists = c.in_ok-lists.ensures in
    subst (λ q. ArePacksGiven (plain_program q) c.in_ok-packs.packs.items c.as_slice-4.result.now) (sym c.in_ok-layer.ensures.program)
    (subst (ArePacksGiven p c.in_ok-packs.packs.items) (sym c.as_slice-4.ensures.value)
    (packs_given p graph c.requires.source c.in_ok-packs.packs.items (lists_of cell_lists) c.in_ok-lists.lists.items given.value given.few given.fit
    (ap lists_of c.as_slice.ensures.value ∙ c.in_ok-cell_lists.ensures.value) (lists.value ∙ same_pack_lists (lists_of cell_lists) _ _ _ _ c.get.ensures c.as_slice-2.ensures.value) lists.short lists.ends))

pub returns-clause-at_most : goal.returns-clause-at_most
returns-clause-at_most g c =
    let is = c.in_ok-layer.ensures in
    subst (λ p. c.solve_layers.new.steps ≤ c.args.steps.now + most_steps (plain_program p) c.args.graph.now) is.program
    (subst (λ h. c.solve_layers.new.steps ≤ c.args.steps.now + most_steps (plain_program c.in_ok-layer.layer.program.now) h) is.graph
    c.solve_layers.ensures.at_most)
