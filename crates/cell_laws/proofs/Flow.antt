-- What is known of cells flows along a program's graph: each edge makes elements of elements, and more of more.
use Rattle.std.proofs.Common.{ℕ, List, Option, Some, None, ℤ, sym, ap, subst}
use Rattle.std.specs.Option.{option_map_or}
use Rattle.std.proofs.Props.{props}
use Rattle.std.proofs.Math.Logic.{∥∥₁_elim}
use Rattle.cob_program.specs.Act.{Act, Program}
use Rattle.cob_runs.specs.Effects.{act_at}
use Rattle.cob_graph.specs.declared.graph.Edge.{Edge}
use Rattle.cob_graph.specs.declared.graph.Graph.{Graph}
use Rattle.dom_laws.specs.Lattice.{Lattice, IsElement}
use Rattle.dom_laws.specs.Flow.{IsFlow}
use Rattle.interval_domain.specs.Known.{Known}
use Rattle.interval_domain.specs.Elements.{Element, CellsFit, ElementFits, CellsBelow, ElementBelow}
use Rattle.interval_domain.specs.Rows.{row_from, width_of, element_of, cells_lattice, RowBelow}
use Rattle.interval_domain.proofs.Rows.{element_back, row_width}
use Rattle.graph_runs.specs.Places.{edge_at}
use Rattle.graph_runs.specs.Sources.{IsSourceGraph}
use Rattle.graph_runs.specs.Flows.{HasEdgesInOrder}
use Rattle.graph_runs.proofs.Ordering.{in_order}
use Rattle.cell_steps.specs.OwnRanges.{owns}
use Rattle.cell_steps.specs.Edges.{post_cells}
use Rattle.cell_laws.specs.Entry.{entry_cells}
use Rattle.cell_laws.specs.Layer.{row_for, left, edge_cells, post_at, row_post, cell_flow}
use Rattle.cell_laws.proofs.EachEdge.{posts_fit_owns, all_posts_rise}
use Rattle.cell_laws.proofs.Entry.{entry_fits}

module _ (p : Program) (thresholds : List (List ℤ)) where
  abbrev pub lattice : Lattice
  lattice = cells_lattice (owns p) thresholds

  pub row_is_element : (x : Element) → ElementFits (owns p) x → IsElement lattice (row_for p x)
  row_is_element x h = record {
    width = row_width (owns p) x h;
    formed = record {
      said = ap (row_from (width_of (owns p))) (sym (element_back (owns p) x h));
      fits = subst (ElementFits (owns p)) (sym (element_back (owns p) x h)) h;
    };
  }

module _ (p : Program) (g : Graph) where
  edge_fits : (x : Edge) (cells : List Known) → CellsFit (owns p) cells → ElementFits (owns p) (edge_cells p g x cells)
  edge_fits x cells h = by_act (act_at p (left g x))
    where
      by_act : (o : Option Act) → ElementFits (owns p) (option_map_or (λ a. post_cells p (left g x) a x.action cells) o (Some cells))
      by_act None = h
      by_act (Some a) = posts_fit_owns p (left g x) a x.action cells h

  pub post_fits : (e : ℕ) (y : Element) → ElementFits (owns p) y → ElementFits (owns p) (post_at p g e y)
  post_fits e None h = tt
  post_fits e (Some cells) h = edge_fits (edge_at g e) cells h

  edge_rises : (x : Edge) (less more : List Known) → CellsFit (owns p) less → CellsBelow less more →
      ElementBelow (edge_cells p g x less) (edge_cells p g x more)
  edge_rises x less more h below = by_act (act_at p (left g x))
    where
      by_act : (o : Option Act) →
          ElementBelow (option_map_or (λ a. post_cells p (left g x) a x.action less) o (Some less))
          (option_map_or (λ a. post_cells p (left g x) a x.action more) o (Some more))
      by_act None = below
      by_act (Some a) = all_posts_rise p (left g x) a x.action less more h below

  post_rises : (e : ℕ) (y z : Element) → ElementFits (owns p) y → ElementBelow y z → ElementBelow (post_at p g e y) (post_at p g e z)
  post_rises e None z h below = tt
  post_rises e (Some less) None h below = absurd below
  post_rises e (Some less) (Some more) h below = edge_rises (edge_at g e) less more h below

  row_rises : (e : ℕ) (a b : List ℤ) → ElementFits (owns p) (element_of a) → ElementFits (owns p) (element_of b) → RowBelow a b →
      RowBelow (row_post p g e a) (row_post p g e b)
  row_rises e a b h k below =
      subst (λ (x : Element). ElementBelow x (element_of (row_post p g e b)))
      (sym (element_back (owns p) (post_at p g e (element_of a)) (post_fits e (element_of a) h)))
      (subst (ElementBelow (post_at p g e (element_of a)))
      (sym (element_back (owns p) (post_at p g e (element_of b)) (post_fits e (element_of b) k)))
      (post_rises e (element_of a) (element_of b) h below))

  pub cells_flow : (thresholds : List (List ℤ)) → ∥ IsSourceGraph p g ∥₁ → IsFlow (lattice p thresholds) (cell_flow p g)
  cells_flow thresholds source = record {
    has_node = ∥∥₁_elim source (hlevel props) (λ s. (order s).has_node);
    source_node = λ e is. record {
      first = ∥∥₁_elim source (hlevel props) (λ s. ((order s).source_node e is).first);
      last = ∥∥₁_elim source (hlevel props) (λ s. ((order s).source_node e is).last);
    };
    target_node = λ e is. record {
      first = ∥∥₁_elim source (hlevel props) (λ s. ((order s).target_node e is).first);
      last = ∥∥₁_elim source (hlevel props) (λ s. ((order s).target_node e is).last);
    };
    by_source = λ d e h k order_. ∥∥₁_elim source (hlevel props) (λ s. (order s).by_source d e h k order_);
    entry_element = row_is_element p thresholds (Some (entry_cells p)) (entry_fits p g source);
    post_element = λ e a is el. row_is_element p thresholds (post_at p g e (element_of a)) (post_fits e (element_of a) el.formed.fits);
    post_monotone = λ e a b is el other below. row_rises e a b el.formed.fits other.formed.fits below;
  }
    where
      order : IsSourceGraph p g → HasEdgesInOrder (cell_flow p g)
      order s = in_order p g s.graph (row_for p (Some (entry_cells p))) (row_post p g)
