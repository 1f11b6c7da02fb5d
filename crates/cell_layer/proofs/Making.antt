-- What a program's graph gives a layer that is made over it.
use Rattle.std.proofs.Common.{◌≡◌, ◌≤◌, ◌<◌, ◌*◌, ◌-◌, ℕ, suc, List, [], ◌∷◌, length, ℤ, Vec, refl, sym, ap, subst, ◌∙◌, arith}
use Rattle.std.specs.Prelude.{slice_index_or}
use Rattle.std.specs.declared.alloc.Global.{Global}
use Rattle.std.specs.List.{All}
use Rattle.std.proofs.Props.{props}
use Rattle.std.proofs.Math.Logic.{∥∥₁_elim, ∥∥₁_prop}
use Rattle.std.proofs.lemmas.List.{length-map}
use Rattle.std.proofs.lemmas.List.Elements.{All-from_get_or}
use Rattle.cob_program.specs.ActView.{plain_program}
use Rattle.cob_program.specs.Act.{Program}
use Rattle.cob_graph.specs.declared.graph.Graph.{Graph}
use Rattle.cob_graph.specs.Graphs.{cells_of}
use Rattle.cob_store.specs.WellFormed.{HasWellFormedItems}
use Rattle.dom_laws.specs.Flow.{IsNode}
use Rattle.interval_domain.specs.declared.bounds.Interval.{Interval}
use Rattle.interval_domain.specs.Elements.{AreThresholds}
use Rattle.interval_domain.specs.Rows.{lists_of}
use Rattle.graph_runs.specs.Places.{no_edge}
use Rattle.graph_runs.specs.Sources.{IsSourceGraph}
use Rattle.graph_runs.specs.Flows.{HasEdgesInOrder, flow_over}
use Rattle.graph_runs.proofs.Ordering.{in_order, graphs_are_flows}
use Rattle.cob_graph.specs.Homes.{homes_of}
use Rattle.cob_graph.specs.Limits.{most_cells, most_nodes}
use Rattle.cell_steps.specs.OwnRanges.{home_range, owns}
use Rattle.cell_layer.specs.declared.layer.works.EdgeWorks.{EdgeWorks}
use Rattle.cell_layer.specs.Held.{IsHeld}
use Rattle.cell_layer.proofs.FirstCells.{homes_many}
use Rattle.cell_layer.proofs.AtMostOne.{items_prop}

-- a list of thresholds for each cell
as_many : (owns_ : List Interval) (lists : List (List ℤ)) → AreThresholds owns_ lists → length owns_ ≡ length lists
as_many [] [] ends = refl
as_many [] (ts ∷ lists) ends = absurd ends
as_many (own ∷ owns_) [] ends = absurd ends
as_many (own ∷ owns_) (ts ∷ lists) ends = ap suc (as_many owns_ lists ends.1)

pub owned_by : (owns_ : List Interval) (lists : List (Vec ℤ Global)) → AreThresholds owns_ (lists_of lists) → length owns_ ≡ length lists
owned_by owns_ lists ends = as_many owns_ (lists_of lists) ends ∙ length-map lists (λ list. list.items)

module _ (p : Program) (g : Graph) (source : IsSourceGraph p g) where
  order : HasEdgesInOrder (flow_over g [] (λ e row. row))
  order = in_order p g source.graph [] (λ e row. row)

  -- each edge goes to a node
  target_at : (k : ℕ) → k < length g.edges → IsNode (flow_over g [] (λ e row. row)) (slice_index_or g.edges k no_edge).to
  target_at k within =
      let same : suc k - 1 ≡ k = omega arith in
      subst (λ j. IsNode (flow_over g [] (λ e row. row)) (slice_index_or g.edges j no_edge).to) same
      (order.target_node (suc k) (record { first = omega arith; last = omega (arith, within) }))

  from_first : All (λ x. 1 ≤ x.to) g.edges
  from_first = All-from_get_or (λ x. 1 ≤ x.to) g.edges no_edge (λ k within. (target_at k within).first)

  to_last : All (λ x. x.to ≤ length g.nodes) g.edges
  to_last = All-from_get_or (λ x. x.to ≤ length g.nodes) g.edges no_edge (λ k within. (target_at k within).last)

  -- at most three leave a node
  three_each : length g.edges ≤ 3 * length g.nodes
  three_each = (graphs_are_flows p g source.graph [] (λ e row. row)).1

  cells_for_owns : length (owns p) ≡ length g.cells
  cells_for_owns =
      length-map (homes_of p) (home_range p.layout) ∙ homes_many p ∙ ap length (sym source.graph.cells)

-- ---- what a layer is made of

module _ (p : Program) (g : Graph) (source : ∥ IsSourceGraph p g ∥₁) where
  pub targets_first : All (λ x. 1 ≤ x.to) g.edges
  targets_first = ∥∥₁_elim source (hlevel props) (λ s. from_first p g s)

  pub targets_last : All (λ x. x.to ≤ length g.nodes) g.edges
  targets_last = ∥∥₁_elim source (hlevel props) (λ s. to_last p g s)

  pub few_edges : length g.nodes ≤ most_nodes → length g.edges ≤ 12288
  few_edges few =
      let three : length g.edges ≤ 3 * length g.nodes = ∥∥₁_elim source (hlevel props) (λ s. three_each p g s) in
      omega (arith, three, few)

  pub few_lists : (lists : List (Vec ℤ Global)) → AreThresholds (owns p) (lists_of lists) → length g.cells ≤ most_cells → length lists ≤ most_cells
  few_lists lists ends few =
      let as_cells : length (owns p) ≡ length g.cells = ∥∥₁_elim source (hlevel props) (λ s. cells_for_owns p g s) in
      let as_lists = owned_by (owns p) lists ends in
      omega (arith, as_cells, as_lists, few)

  pub sound_items : HasWellFormedItems p.layout
  sound_items = ∥∥₁_elim source (items_prop p.layout) (λ s. s.items)

  pub cells_are : g.cells ≡ cells_of p
  cells_are = ∥∥₁_elim source (hlevel props) (λ s. s.graph.cells)

  pub held_by : (works : EdgeWorks) → plain_program works.program.now ≡ p → works.graph.now ≡ g → ∥ IsHeld p g works ∥₁
  held_by works same_program same_graph =
      ∥∥₁_elim source ∥∥₁_prop (λ s. ∣ record { source = s; program = same_program; graph = same_graph } ∣₁)
