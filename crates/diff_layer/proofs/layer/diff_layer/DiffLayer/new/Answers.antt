use Rattle.std.proofs.Common.{◌≤◌, ◌∙◌, length, sym, ap, subst}
use Rattle.std.specs.List.{All}
use Rattle.cob_program.specs.ActView.{plain_program}
use Rattle.cob_program.specs.Statements.{plain_references}
use Rattle.cob_graph.specs.Homes.{homes_of}
use Rattle.cob_graph.specs.Limits.{most_cells}
use Rattle.cell_laws.specs.Entry.{entry_cells}
use Rattle.cell_laws.proofs.Entry.{entry_fits}
use Rattle.cell_layer.specs.Heads.{heads_of}
use Rattle.cell_layer.proofs.Making.{targets_first, targets_last, few_edges, held_by, sound_items, cells_are}
use Rattle.diff_steps.specs.Edges.{entry_packs}
use Rattle.diff_bounds.specs.PackRows.{row_of}
use Rattle.diff_layer.specs.Plans.{plain_plans, ArePlansOf}
use Rattle.pack_laws.specs.Layer.{sizes_of}
use Rattle.pack_laws.specs.Packs.{ArePacksOfCells}
use Rattle.diff_layer.specs.LayerLaws.{cells_for_homes}
use Rattle.diff_layer.proofs.Layers.{are_plans}
use Rattle.diff_layer.proofs.Rows.{same_sizes}
use Rattle.diff_layer.proofs.Steps.{as_many}
use Rattle.diff_layer.proofs.layer.diff_layer.DiffLayer.new.Goals as goal

pub plans_of-requires-clause-packs : goal.plans_of-requires-clause-packs
plans_of-requires-clause-packs g c =
    let p = plain_program c.args.program.now in
    let graph = c.args.graph.now in
    let source = c.requires.source in
    let works = c.in_ok-works.works in
    let held = held_by p graph source works (ap plain_program c.in_ok-works.ensures.program) c.in_ok-works.ensures.graph in
    subst (λ n. ArePacksOfCells n c.args.packs.now) (cells_for_homes p graph works held) c.requires.packs

pub heads_of-requires-clause-first : goal.heads_of-requires-clause-first
heads_of-requires-clause-first g c =
    let p = plain_program c.args.program.now in
    let graph = c.args.graph.now in
    let source = c.requires.source in
    subst (All (λ x. 1 ≤ x.to)) (sym c.get-2.ensures) (targets_first p graph source)

pub heads_of-requires-clause-last : goal.heads_of-requires-clause-last
heads_of-requires-clause-last g c =
    let p = plain_program c.args.program.now in
    let graph = c.args.graph.now in
    let source = c.requires.source in
    subst (All (λ x. x.to ≤ length c.get.result.now)) (sym c.get-2.ensures)
    (subst (λ nodes. All (λ x. x.to ≤ length nodes) graph.edges) (sym c.get.ensures) (targets_last p graph source))

pub entry_words-requires-clause-sound : goal.entry_words-requires-clause-sound
entry_words-requires-clause-sound g c =
    let p = plain_program c.args.program.now in
    let graph = c.args.graph.now in
    let source = c.requires.source in
    sound_items p graph source

pub entry_words-requires-clause-cells : goal.entry_words-requires-clause-cells
entry_words-requires-clause-cells g c =
    let p = plain_program c.args.program.now in
    let graph = c.args.graph.now in
    let source = c.requires.source in
    c.get-3.ensures ∙ cells_are p graph source

pub entry_words-requires-clause-fits : goal.entry_words-requires-clause-fits
entry_words-requires-clause-fits g c =
    let p = plain_program c.args.program.now in
    let graph = c.args.graph.now in
    let source = c.requires.source in
    entry_fits p graph source

pub entry_words-requires-clause-plans : goal.entry_words-requires-clause-plans
entry_words-requires-clause-plans g c =
    let p = plain_program c.args.program.now in
    let graph = c.args.graph.now in
    let source = c.requires.source in
    let works = c.in_ok-works.works in
    let held = held_by p graph source works (ap plain_program c.in_ok-works.ensures.program) c.in_ok-works.ensures.graph in
    let plans = c.in_ok-plans.plans.items in
    subst (ArePlansOf p) (sym c.as_slice-2.ensures.value)
    (are_plans p graph works held c.args.packs.now ∣ c.requires.packs ∣₁ c.args.thresholds.now c.requires.listed plans c.in_ok-plans.ensures.packs
    ∣ c.in_ok-plans.ensures.units ∣₁)

pub entry_words-requires-clause-sizes : goal.entry_words-requires-clause-sizes
entry_words-requires-clause-sizes g c =
    let p = plain_program c.args.program.now in
    let graph = c.args.graph.now in
    let source = c.requires.source in
    let plans = c.in_ok-plans.plans.items in
    c.as_slice-3.ensures.value ∙ c.in_ok-sizes.ensures ∙ same_sizes (homes_of p) c.args.packs.now
    ∙ ap sizes_of (sym (ap plain_plans c.as_slice-2.ensures.value ∙ c.in_ok-plans.ensures.packs))

pub invariant_of-result : goal.invariant_of-result
invariant_of-result g c =
    let p = plain_program c.args.program.now in
    let graph = c.args.graph.now in
    let source = c.requires.source in
    let works = c.in_ok-works.works in
    let held = held_by p graph source works (ap plain_program c.in_ok-works.ensures.program) c.in_ok-works.ensures.graph in
    record {
      held = held;
      cells = ∣ c.requires.packs ∣₁;
      ends = ∣ c.requires.ends ∣₁;
      lists = ∣ c.requires.lists ∣₁;
      listed = c.requires.listed;
      known = ∣ c.requires.facts ∣₁;
      counted = c.requires.count;
      planned = c.in_ok-plans.ensures.packs;
      units = ∣ c.in_ok-plans.ensures.units ∣₁;
      sized = c.in_ok-sizes.ensures ∙ same_sizes (homes_of p) c.args.packs.now;
      marked = c.in_ok-heads.ensures ∙ ap (λ nodes. heads_of (length nodes) c.get-2.result.now) c.get.ensures ∙ ap (heads_of (length graph.nodes)) c.get-2.ensures;
      begun = c.in_ok-entry.ensures
          ∙ ap (λ packs. row_of (entry_packs p packs (entry_cells p))) (ap plain_plans c.as_slice-2.ensures.value ∙ c.in_ok-plans.ensures.packs);
      few = c.requires.few;
      words = c.requires.cells;
      nodes = c.requires.nodes;
      edges = few_edges p graph source c.requires.nodes;
    }

pub plans_of-requires-clause-statements : goal.plans_of-requires-clause-statements
plans_of-requires-clause-statements g c = ap plain_references c.as_slice.ensures.value ∙ c.in_ok-statements.ensures

pub entry_words-requires-clause-few : goal.entry_words-requires-clause-few
entry_words-requires-clause-few g c = subst (λ cells. length cells ≤ most_cells) (sym c.get-3.ensures) c.requires.cells

pub entry_words-requires-clause-packs : goal.entry_words-requires-clause-packs
entry_words-requires-clause-packs g c =
    let same = as_many (homes_of (plain_program c.args.program.now)) c.args.packs.now c.in_ok-plans.plans.items c.in_ok-plans.ensures.packs in
    subst (λ n. n ≤ 32) (sym (ap length c.as_slice-2.ensures.value ∙ same)) c.requires.few

pub entry_words-requires-clause-listed : goal.entry_words-requires-clause-listed
entry_words-requires-clause-listed g c =
    let same = as_many (homes_of (plain_program c.args.program.now)) c.args.packs.now c.in_ok-plans.plans.items c.in_ok-plans.ensures.packs in
    c.requires.listed ∙ sym (ap length c.as_slice-2.ensures.value ∙ same)
