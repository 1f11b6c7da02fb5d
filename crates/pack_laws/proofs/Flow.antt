-- What is known of differences flows along a program's graph: each edge makes matrices of matrices, and more of more.
use Rattle.std.proofs.Common.{ℕ, List, Option, Some, None, ℤ}
use Rattle.std.specs.Option.{option_map_or}
use Rattle.std.proofs.Props.{props}
use Rattle.std.proofs.Math.Logic.{∥∥₁_elim}
use Rattle.cob_program.specs.Act.{Act, Program}
use Rattle.cob_runs.specs.Effects.{act_at}
use Rattle.cob_graph.specs.declared.graph.Edge.{Edge}
use Rattle.cob_graph.specs.declared.graph.Graph.{Graph}
use Rattle.dom_laws.specs.Lattice.{IsElement}
use Rattle.dom_laws.specs.Flow.{IsNode, IsEdge}
use Rattle.interval_domain.specs.Known.{Known}
use Rattle.interval_domain.specs.Elements.{Element, CellsFit, ElementFits, CellsBelow, ElementBelow}
use Rattle.interval_domain.specs.Rows.{element_of}
use Rattle.interval_domain.proofs.AllCells.{element_reflexive}
use Rattle.graph_runs.specs.Places.{edge_at}
use Rattle.graph_runs.specs.Sources.{IsSourceGraph}
use Rattle.graph_runs.specs.Flows.{HasEdgesInOrder}
use Rattle.graph_runs.proofs.Ordering.{in_order}
use Rattle.cell_steps.specs.OwnRanges.{owns}
use Rattle.cell_laws.specs.Entry.{entry_cells}
use Rattle.cell_laws.specs.Layer.{left}
use Rattle.diff_steps.specs.Packs.{Pack}
use Rattle.diff_steps.specs.Edges.{entry_packs, post_packs}
use Rattle.diff_bounds.specs.PackRows.{matrices_in, row_of}
use Rattle.pack_laws.specs.Agreeing.{AreMatrices}
use Rattle.pack_laws.specs.EdgeLaws.{AreLowerEach}
use Rattle.pack_laws.proofs.PacksFit.{bottoms_fit, posts_fit}
use Rattle.pack_laws.proofs.PacksEdgesRise.{bottoms_below, posts_rise}
use Rattle.pack_laws.specs.Layer.{sizes_of, Facts, ArePacks, diff_lattice, edge_packs, packs_post, diff_post, diff_flow}
use Rattle.pack_laws.specs.Laws.{PacksFlow, AreBelow, PostsFall}
use Rattle.pack_laws.proofs.Pieces.{are_matrices, row_is_element, are_lower, row_is_below}
use Rattle.pack_laws.proofs.Entry.{entry_fits}

module _ (p : Program) (g : Graph) (packs : List Pack) where
  edge_fits : (x : Edge) (cells : List Known) (ms : List (List ℤ)) → AreMatrices packs ms → AreMatrices packs (edge_packs p g packs x cells ms)
  edge_fits x cells ms are = by_act (act_at p (left g x))
    where
      by_act : (o : Option Act) → AreMatrices packs (option_map_or (λ a. post_packs p packs (left g x) a x.action (Some cells) ms) o ms)
      by_act None = are
      by_act (Some a) = posts_fit p packs (left g x) a x.action cells ms are

  pub post_fits : (x : Edge) (element : Element) (ms : List (List ℤ)) → AreMatrices packs ms → AreMatrices packs (packs_post p g packs x element ms)
  post_fits x None ms are = bottoms_fit packs ms are
  post_fits x (Some cells) ms are = edge_fits x cells ms are

  edge_rises : (x : Edge) (less more : List Known) (low high : List (List ℤ)) → CellsFit (owns p) less → CellsBelow less more
      → AreMatrices packs low → AreMatrices packs high → AreLowerEach packs low high
      → AreLowerEach packs (edge_packs p g packs x less low) (edge_packs p g packs x more high)
  edge_rises x less more low high fits below are is lower = by_act (act_at p (left g x))
    where
      by_act : (o : Option Act) → AreLowerEach packs (option_map_or (λ a. post_packs p packs (left g x) a x.action (Some less) low) o low)
          (option_map_or (λ a. post_packs p packs (left g x) a x.action (Some more) high) o high)
      by_act None = lower
      by_act (Some a) = posts_rise p packs (left g x) a x.action less more fits below low high are is lower

  post_rises : (x : Edge) (less more : Element) (low high : List (List ℤ)) → ElementFits (owns p) less → ElementBelow less more
      → AreMatrices packs low → AreMatrices packs high → AreLowerEach packs low high
      → AreLowerEach packs (packs_post p g packs x less low) (packs_post p g packs x more high)
  post_rises x None more low high fits below are is lower = bottoms_below packs (packs_post p g packs x more high) (post_fits x more high is)
  post_rises x (Some less) None low high fits below are is lower = absurd below
  post_rises x (Some less) (Some more) low high fits below are is lower = edge_rises x less more low high fits below are is lower

-- each edge of a source's graph leads from a node to a node
is_in_order : (p : Program) (g : Graph) (packs : List Pack) (facts : Facts) → IsSourceGraph p g → HasEdgesInOrder (diff_flow p g packs facts)
is_in_order p g packs facts s = in_order p g s.graph (row_of (entry_packs p packs (entry_cells p))) (diff_post p g packs facts)

source_is_node : (p : Program) (g : Graph) (packs : List Pack) (facts : Facts) → ∥ IsSourceGraph p g ∥₁ → (e : ℕ)
    → IsEdge (diff_flow p g packs facts) e → IsNode (diff_flow p g packs facts) (edge_at g e).from
source_is_node p g packs facts source e is = record {
  first = ∥∥₁_elim source (hlevel props) (λ s. ((is_in_order p g packs facts s).source_node e is).first);
  last = ∥∥₁_elim source (hlevel props) (λ s. ((is_in_order p g packs facts s).source_node e is).last);
}

module _ (p : Program) (g : Graph) (packs : List Pack) (lists : List (List ℤ)) (is_packs : ArePacks p packs lists) where
  pub edge_is_element : (x : Edge) (element : Element) (row : List ℤ) → IsElement (diff_lattice packs lists) row
      → IsElement (diff_lattice packs lists) (row_of (packs_post p g packs x element (matrices_in (sizes_of packs) row)))
  edge_is_element x element row is =
      row_is_element packs lists is_packs (packs_post p g packs x element (matrices_in (sizes_of packs) row))
      (post_fits p g packs x element (matrices_in (sizes_of packs) row) (are_matrices packs lists is_packs row is))

  edge_is_below : (x : Edge) (less more : Element) (a b : List ℤ) → ElementFits (owns p) less → ElementBelow less more
      → IsElement (diff_lattice packs lists) a → IsElement (diff_lattice packs lists) b → (diff_lattice packs lists).Below a b
      → (diff_lattice packs lists).Below (row_of (packs_post p g packs x less (matrices_in (sizes_of packs) a))) (row_of (packs_post p g packs x more (matrices_in (sizes_of packs) b)))
  edge_is_below x less more a b fits below is other lower =
      let low = matrices_in (sizes_of packs) a in
      let high = matrices_in (sizes_of packs) b in
      let are = are_matrices packs lists is_packs a is in
      let its = are_matrices packs lists is_packs b other in
      row_is_below packs lists is_packs (packs_post p g packs x less low) (packs_post p g packs x more high)
      (post_fits p g packs x less low are) (post_fits p g packs x more high its)
      (post_rises p g packs x less more low high fits below are its (are_lower packs lists is_packs a b is other lower))

pub posts_fall : PostsFall
posts_fall p g packs lists less more source is_packs facts others below e a b edge is other lower =
    let x = edge_at g e in
    let node = source_is_node p g packs less source e edge in
    edge_is_below p g packs lists is_packs x (element_of (less x.from)) (element_of (more x.from)) a b
    (facts x.from node.first node.last).fits (below x.from node.first node.last) is other lower

pub same_below : (g : Graph) (facts : Facts) → AreBelow g facts facts
same_below g facts node first last = element_reflexive (element_of (facts node))

pub packs_flow : PacksFlow
packs_flow p g packs lists facts source is_packs are = record {
  has_node = ∥∥₁_elim source (hlevel props) (λ s. (is_in_order p g packs facts s).has_node);
  source_node = λ e is. source_is_node p g packs facts source e is;
  target_node = λ e is. record {
    first = ∥∥₁_elim source (hlevel props) (λ s. ((is_in_order p g packs facts s).target_node e is).first);
    last = ∥∥₁_elim source (hlevel props) (λ s. ((is_in_order p g packs facts s).target_node e is).last);
  };
  by_source = λ d e h k order_. ∥∥₁_elim source (hlevel props) (λ s. (is_in_order p g packs facts s).by_source d e h k order_);
  entry_element = row_is_element packs lists is_packs (entry_packs p packs (entry_cells p)) (entry_fits p packs is_packs.few (entry_cells p));
  post_element = λ e a is el. edge_is_element p g packs lists is_packs (edge_at g e) (element_of (facts (edge_at g e).from)) a el;
  post_monotone = λ e a b is el other below. posts_fall p g packs lists facts facts source is_packs are are (same_below g facts) e a b is el other below;
}
