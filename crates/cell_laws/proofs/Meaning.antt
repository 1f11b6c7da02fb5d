-- What is known of cells stands for the runs of a program along its graph.
use Rattle.std.proofs.Common.{◌≡◌, ℕ, true, List, Option, Some, None, ℤ, sym, ap, subst, ◌∙◌}
use Rattle.std.specs.Option.{option_map_or}
use Rattle.cob_tree.specs.declared.fault.Kind.{Kind}
use Rattle.cob_program.specs.Act.{Act, Program}
use Rattle.cob_runs.specs.Effects.{act_at}
use Rattle.cob_graph.specs.declared.graph.Edge.{Edge}
use Rattle.cob_graph.specs.declared.graph.Graph.{Graph}
use Rattle.cob_graph.specs.declared.graph.Node.{Node}
use Rattle.dom_laws.specs.Meaning.{Storage, IsMeaning}
use Rattle.interval_domain.specs.Known.{Known}
use Rattle.interval_domain.specs.Elements.{Element, ElementBelow}
use Rattle.interval_domain.specs.Rows.{element_of}
use Rattle.interval_domain.proofs.Rows.{element_back}
use Rattle.graph_runs.specs.Places.{edge_at, IsOf, DoesAt}
use Rattle.graph_runs.specs.Doing.{Begins, Acts, MeetsAt}
use Rattle.cob_graph.specs.Homes.{homes_of}
use Rattle.cell_steps.specs.OwnRanges.{owns}
use Rattle.cell_steps.specs.Storages.{storage, StandsIn, ElementStands}
use Rattle.cell_steps.specs.Edges.{post_cells, clears_edge}
use Rattle.cell_laws.specs.Entry.{entry_cells}
use Rattle.cell_laws.specs.Layer.{statement_at, row_for, left, edge_cells, post_at, edge_clears, clears_at, cell_flow, cell_meaning}
use Rattle.cell_laws.proofs.Entry.{entry_fits, entry_stands}
use Rattle.cell_laws.proofs.HomesStand.{homes_stand_above}
use Rattle.cell_laws.proofs.EachEdge.{all_posts_stand, none_cleared_is_met}
use Rattle.cell_laws.proofs.Edges.{edges_are_sound_of_sources}
use Rattle.cell_laws.proofs.Flow.{lattice, post_fits}
use Rattle.cell_laws.proofs.Clears.{cleared_on, clears_stay}

-- ---- less is known above

element_above : (p : Program) (x y : Element) (s : Storage) → ElementBelow x y → ElementStands p x s → ElementStands p y s
element_above p None y s below stands = absurd stands
element_above p (Some cs) None s below stands = absurd below
element_above p (Some cs) (Some ds) s below stands = record {
  whole = stands.whole;
  counted = stands.counted;
  known = λ h. homes_stand_above p.layout s (homes_of p) cs ds h below (stands.known h);
}

-- ---- the statement at a node

statement_is : (g : Graph) (node statement : ℕ) → IsOf g node statement → statement_at g node ≡ statement
statement_is g node statement of = ap (λ (o : Option Node). option_map_or (λ n. n.statement) o 0) of.stands ∙ of.number

-- what is made of the statement that an edge leaves
pub at_source : {A : Type 0} (p : Program) (g : Graph) (x : Edge) (statement : ℕ) (a : Act) (f : ℕ → Act → A) (none : A) →
    DoesAt p g x.from statement a → option_map_or (f (left g x)) (act_at p (left g x)) none ≡ f statement a
at_source p g x statement a f none does =
    ap (λ n. option_map_or (f n) (act_at p n) none) (statement_is g x.from statement does.of)
    ∙ ap (λ (o : Option Act). option_map_or (f statement) o none) does.act

module _ (p : Program) (g : Graph) where
  -- ---- what stands behind an edge

  moved : (x : Element) (bytes old : List ℕ) (counters counts : List (Option ℤ)) → bytes ≡ old → counters ≡ counts →
      ElementStands p x (storage bytes counters) → ElementStands p x (storage old counts)
  moved x bytes old counters counts e f stands =
      subst (λ b. ElementStands p x (storage b counts)) e (subst (λ c. ElementStands p x (storage bytes c)) f stands)

  acted : (e : ℕ) (cells : List Known) (s t : Storage) (acts : Acts p g e s t) → StandsIn p cells s →
      ElementStands p (edge_cells p g (edge_at g e) cells) t
  acted e cells s t acts stands =
      subst (λ (x : Element). ElementStands p x t)
      (sym (at_source p g (edge_at g e) acts.statement acts.act (λ n a. post_cells p n a (edge_at g e).action cells) (Some cells) acts.does))
      (moved (post_cells p acts.statement acts.act (edge_at g e).action cells) acts.last.storage t.bytes acts.last.counts t.counters
      acts.bytes acts.counters
      (all_posts_stand p acts.statement acts.act (edge_at g e).action cells s.bytes s.counters acts.last
      (edges_are_sound_of_sources p g acts.of_source acts.statement acts.act (edge_at g e).action acts.does.act) stands acts.way acts.fails))

  kept : (e : ℕ) (x : Element) (s t : Storage) → ElementStands p x s → Acts p g e s t → ElementStands p (post_at p g e x) t
  kept e None s t stands acts = absurd stands
  kept e (Some cells) s t stands acts = acted e cells s t acts stands

  -- ---- what isn't met

  not_met_on : (fault : Kind) (cells : List Known) (s : Storage) (node : ℕ) (m : MeetsAt p g node fault s) → StandsIn p cells s →
      edge_clears p g fault cells (edge_at g m.e) ≡ true → ⊥
  not_met_on fault cells s node m stands clears =
      none_cleared_is_met p m.statement m.act (edge_at g m.e).action cells s.bytes s.counters fault
      (edges_are_sound_of_sources p g m.on.of_source m.statement m.act (edge_at g m.e).action m.on.does.act) stands
      (sym (at_source p g (edge_at g m.e) m.statement m.act (λ n a. clears_edge p n a (edge_at g m.e).action cells fault) true at) ∙ clears)
      m.on.its m.meets
    where
      at : DoesAt p g (edge_at g m.e).from m.statement m.act
      at = subst (λ k. DoesAt p g k m.statement m.act) (sym m.on.leaves.source) m.on.does

  not_met : (node : ℕ) (x : Element) (fault : Kind) (s : Storage) → clears_at p g node x fault ≡ true → ElementStands p x s →
      ¬ MeetsAt p g node fault s
  not_met node None fault s clears stands m = stands
  not_met node (Some cells) fault s clears stands m =
      not_met_on fault cells s node m stands (cleared_on p g node m.e fault cells m.on.leaves clears)

  -- ---- the entry

  begun : (s : Storage) → Begins p g s → ElementStands p (element_of (row_for p (Some (entry_cells p)))) s
  begun s begins =
      subst (λ (x : Element). ElementStands p x s)
      (sym (element_back (owns p) (Some (entry_cells p)) (entry_fits p g ∣ begins.of_source ∣₁)))
      (entry_stands p g s begins)

  pub cells_mean : (thresholds : List (List ℤ)) → IsMeaning (lattice p thresholds) (cell_flow p g) (cell_meaning p g)
  cells_mean thresholds = record {
    stands_above = λ a b s is other below stands. element_above p (element_of a) (element_of b) s below stands;
    begins = λ s begins granted. begun s begins;
    kept = λ e row s t is el granted stands acts.
        subst (λ (x : Element). ElementStands p x t)
        (sym (element_back (owns p) (post_at p g e (element_of row)) (post_fits p g e (element_of row) el.formed.fits)))
        (kept e (element_of row) s t stands acts);
    cleared = λ node row fault s is el clears granted stands. not_met node (element_of row) fault s clears stands;
    clears_below = λ node a b fault is el other below clears.
        clears_stay p g node fault (element_of a) (element_of b) el.formed.fits below clears;
  }
