-- What is known of differences stands for the runs of a program along its graph.
use Rattle.std.proofs.Common.{◌≡◌, ℕ, true, List, Option, Some, None, ℤ, sym, subst, ◌∙◌}
use Rattle.cob_tree.specs.declared.fault.Kind.{Kind}
use Rattle.cob_program.specs.Act.{Program}
use Rattle.cob_graph.specs.declared.graph.Graph.{Graph}
use Rattle.dom_laws.specs.Meaning.{Storage}
use Rattle.interval_domain.specs.Known.{Known}
use Rattle.interval_domain.specs.Elements.{Element}
use Rattle.interval_domain.specs.Rows.{element_of}
use Rattle.graph_runs.specs.Places.{edge_at, DoesAt}
use Rattle.graph_runs.specs.Doing.{Acts, MeetsAt}
use Rattle.cell_steps.specs.Storages.{storage, StandsIn, ElementStands}
use Rattle.cell_laws.specs.Entry.{entry_cells}
use Rattle.cell_laws.proofs.Entry as first_cells
use Rattle.cell_laws.proofs.Meaning.{at_source}
use Rattle.cell_laws.proofs.Edges.{edges_are_sound_of_sources}
use Rattle.cell_laws.proofs.Sound.{items_are_sound}
use Rattle.diff_steps.specs.Packs.{Pack, PacksStand}
use Rattle.diff_steps.specs.Edges.{entry_packs, post_packs}
use Rattle.diff_steps.specs.Clearing.{clears_edge2}
use Rattle.diff_bounds.specs.PackRows.{matrices_in, row_of}
use Rattle.pack_laws.specs.Agreeing.{AreMatrices, ArePacksOf}
use Rattle.pack_laws.proofs.PacksStand.{all_packs_stand}
use Rattle.pack_laws.proofs.PacksClearAll.{none_cleared_is_met}
use Rattle.pack_laws.specs.Layer.{sizes_of, edge_packs, packs_post, edge_clears2, clears_at2}
use Rattle.pack_laws.specs.Laws.{PacksMean}
use Rattle.pack_laws.proofs.Pieces.{matrices_back, are_matrices, all_stand_above}
use Rattle.pack_laws.proofs.Entry.{entry_fits, entry_stands}
use Rattle.pack_laws.proofs.Flow.{same_below, post_fits}
use Rattle.pack_laws.proofs.Clears.{cleared_on, cleared_stays}

module _ (p : Program) (g : Graph) (packs : List Pack) (is_packs : ArePacksOf p packs) where
  -- ---- what stands behind an edge

  moved : (ms : List (List ℤ)) (bytes old : List ℕ) (counters counts : List (Option ℤ)) → bytes ≡ old → counters ≡ counts
      → PacksStand p.layout packs ms (storage bytes counters) → PacksStand p.layout packs ms (storage old counts)
  moved ms bytes old counters counts e f stands =
      subst (λ b. PacksStand p.layout packs ms (storage b counts)) e (subst (λ c. PacksStand p.layout packs ms (storage bytes c)) f stands)

  acted : (e : ℕ) (cells : List Known) (ms : List (List ℤ)) (s t : Storage) (acts : Acts p g e s t) → StandsIn p cells s → AreMatrices packs ms
      → PacksStand p.layout packs ms s → PacksStand p.layout packs (edge_packs p g packs (edge_at g e) cells ms) t
  acted e cells ms s t acts known are stands =
      subst (λ (xs : List (List ℤ)). PacksStand p.layout packs xs t)
      (sym (at_source p g (edge_at g e) acts.statement acts.act (λ n a. post_packs p packs n a (edge_at g e).action (Some cells) ms) ms acts.does))
      (moved (post_packs p packs acts.statement acts.act (edge_at g e).action (Some cells) ms) acts.last.storage t.bytes acts.last.counts t.counters
      acts.bytes acts.counters
      (all_packs_stand p packs acts.statement acts.act (edge_at g e).action cells ms s.bytes s.counters acts.last is_packs
      (edges_are_sound_of_sources p g acts.of_source acts.statement acts.act (edge_at g e).action acts.does.act) known are stands acts.way acts.fails))

  kept : (e : ℕ) (element : Element) (ms : List (List ℤ)) (s t : Storage) → ElementStands p element s → AreMatrices packs ms
      → PacksStand p.layout packs ms s → Acts p g e s t → PacksStand p.layout packs (packs_post p g packs (edge_at g e) element ms) t
  kept e None ms s t known are stands acts = absurd known
  kept e (Some cells) ms s t known are stands acts = acted e cells ms s t acts known are stands

  -- ---- what isn't met

  not_met_on : (fault : Kind) (cells : List Known) (ms : List (List ℤ)) (s : Storage) (node : ℕ) (m : MeetsAt p g node fault s) → StandsIn p cells s
      → AreMatrices packs ms → PacksStand p.layout packs ms s → edge_clears2 p g packs fault cells ms (edge_at g m.e) ≡ true → ⊥
  not_met_on fault cells ms s node m known are stands clears =
      none_cleared_is_met p packs m.statement m.act (edge_at g m.e).action cells ms s.bytes s.counters fault is_packs
      (edges_are_sound_of_sources p g m.on.of_source m.statement m.act (edge_at g m.e).action m.on.does.act) known are stands
      (sym (at_source p g (edge_at g m.e) m.statement m.act (λ n a. clears_edge2 p packs n a (edge_at g m.e).action cells ms fault) true at) ∙ clears)
      m.on.its m.meets
    where
      at : DoesAt p g (edge_at g m.e).from m.statement m.act
      at = subst (λ k. DoesAt p g k m.statement m.act) (sym m.on.leaves.source) m.on.does

  not_met : (node : ℕ) (element : Element) (ms : List (List ℤ)) (fault : Kind) (s : Storage) → clears_at2 p g packs node element ms fault ≡ true
      → ElementStands p element s → AreMatrices packs ms → PacksStand p.layout packs ms s → ¬ MeetsAt p g node fault s
  not_met node None ms fault s clears known are stands m = known
  not_met node (Some cells) ms fault s clears known are stands m =
      not_met_on fault cells ms s node m known are stands (cleared_on p g packs node m.e fault cells ms m.on.leaves clears)

-- ---- rows

in_row : (p : Program) (packs : List Pack) (ms : List (List ℤ)) (s : Storage) → AreMatrices packs ms → PacksStand p.layout packs ms s
    → PacksStand p.layout packs (matrices_in (sizes_of packs) (row_of ms)) s
in_row p packs ms s are stands = subst (λ (xs : List (List ℤ)). PacksStand p.layout packs xs s) (sym (matrices_back packs ms are)) stands

pub packs_mean : PacksMean
packs_mean p g packs lists facts is_packs are = record {
  stands_above = λ a b s is other below stands. all_stand_above packs lists is_packs a b s is other below stands;
  begins = λ s begins granted.
      in_row p packs (entry_packs p packs (entry_cells p)) s (entry_fits p packs is_packs.few (entry_cells p))
      (entry_stands p packs is_packs.few (entry_cells p) (items_are_sound p.layout begins.of_source.items begins.of_source.signs) s
      (first_cells.entry_stands p g s begins));
  kept = λ e row s t is el granted stands acts.
      let x = edge_at g e in
      let ms = matrices_in (sizes_of packs) row in
      let its = are_matrices packs lists is_packs row el in
      in_row p packs (packs_post p g packs x (element_of (facts x.from)) ms) t (post_fits p g packs x (element_of (facts x.from)) ms its)
      (kept p g packs is_packs.cells e (element_of (facts x.from)) ms s t granted its stands acts);
  cleared = λ node row fault s is el clears granted stands.
      not_met p g packs is_packs.cells node (element_of (facts node)) (matrices_in (sizes_of packs) row) fault s clears granted
      (are_matrices packs lists is_packs row el) stands;
  clears_below = λ node a b fault is el other below clears.
      cleared_stays p g packs lists facts facts is_packs are are (same_below g facts) node a b fault is el other below clears;
}
