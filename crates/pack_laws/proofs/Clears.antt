-- What both layers clear at a node is cleared on each of its edges, and where less is known to be possible.
use Rattle.std.proofs.Common.{◌≡◌, ℕ, ◌-◌, ◌==◌, Bool, true, false, not, ◌||◌, List, Option, Some, None, ℤ, refl, arith}
use Rattle.std.specs.Option.{option_map_or}
use Rattle.std.specs.List.{list_all}
use Rattle.std.proofs.lemmas.Bool.{eq-eqb}
use Rattle.cob_tree.specs.declared.fault.Kind.{Kind}
use Rattle.cob_program.specs.Act.{Act, Program}
use Rattle.cob_runs.specs.Effects.{act_at}
use Rattle.cob_graph.specs.declared.graph.Edge.{Edge}
use Rattle.cob_graph.specs.declared.graph.Graph.{Graph}
use Rattle.interval_domain.specs.Known.{Known}
use Rattle.interval_domain.specs.Elements.{Element, CellsFit, ElementFits, CellsBelow, ElementBelow}
use Rattle.interval_domain.specs.Rows.{element_of}
use Rattle.graph_runs.specs.Places.{edge_at, Leaves}
use Rattle.cell_steps.specs.OwnRanges.{owns}
use Rattle.cell_laws.specs.Layer.{left}
use Rattle.cell_laws.proofs.Clears.{all_at, all_kept}
use Rattle.diff_steps.specs.Packs.{Pack}
use Rattle.diff_steps.specs.Clearing.{clears_edge2}
use Rattle.diff_bounds.specs.PackRows.{matrices_in}
use Rattle.pack_laws.specs.Agreeing.{AreMatrices}
use Rattle.pack_laws.specs.EdgeLaws.{AreLowerEach}
use Rattle.pack_laws.proofs.PacksEdgesRise as edges
use Rattle.pack_laws.specs.Layer.{sizes_of, edge_clears2, leaves_clear2, clears_at2}
use Rattle.pack_laws.specs.Laws.{ClearedStays}
use Rattle.pack_laws.proofs.Pieces.{are_matrices, are_lower}

module _ (p : Program) (g : Graph) (packs : List Pack) where
  pub cleared_on : (node e : ℕ) (fault : Kind) (cells : List Known) (ms : List (List ℤ)) → Leaves g e node
      → list_all (leaves_clear2 p g packs node fault cells ms) g.edges ≡ true → edge_clears2 p g packs fault cells ms (edge_at g e) ≡ true
  cleared_on node e fault cells ms leaves all =
      by_source ((edge_at g e).from == node) (eq-eqb (edge_at g e).from node leaves.source)
      (all_at (leaves_clear2 p g packs node fault cells ms) g.edges (e - 1) all (omega (arith, leaves.first, leaves.last)))
    where
      by_source : (b : Bool) → b ≡ true → (not b || edge_clears2 p g packs fault cells ms (edge_at g e)) ≡ true
          → edge_clears2 p g packs fault cells ms (edge_at g e) ≡ true
      by_source true same clears = clears
      by_source false same clears = absurd (cc)

  module _ (fault : Kind) (less more : List Known) (low high : List (List ℤ)) (fits : CellsFit (owns p) less) (below : CellsBelow less more)
      (are : AreMatrices packs low) (is : AreMatrices packs high) (lower : AreLowerEach packs low high) where
    edge_stays : (x : Edge) → edge_clears2 p g packs fault more high x ≡ true → edge_clears2 p g packs fault less low x ≡ true
    edge_stays x = by_act (act_at p (left g x))
      where
        by_act : (o : Option Act) → option_map_or (λ a. clears_edge2 p packs (left g x) a x.action more high fault) o true ≡ true
            → option_map_or (λ a. clears_edge2 p packs (left g x) a x.action less low fault) o true ≡ true
        by_act None clears = refl
        by_act (Some a) clears = edges.clears_stay p packs (left g x) a x.action less more fits below low high are is lower fault clears

    leaving_stays : (node : ℕ) (x : Edge) → leaves_clear2 p g packs node fault more high x ≡ true → leaves_clear2 p g packs node fault less low x ≡ true
    leaving_stays node x = by_source (x.from == node)
      where
        by_source : (b : Bool) → (not b || edge_clears2 p g packs fault more high x) ≡ true → (not b || edge_clears2 p g packs fault less low x) ≡ true
        by_source true clears = edge_stays x clears
        by_source false clears = refl

    all_stay : (node : ℕ) → list_all (leaves_clear2 p g packs node fault more high) g.edges ≡ true
        → list_all (leaves_clear2 p g packs node fault less low) g.edges ≡ true
    all_stay node clears =
        all_kept (leaves_clear2 p g packs node fault more high) (leaves_clear2 p g packs node fault less low)
        (λ x k. leaving_stays node x k) g.edges clears

  clears_stay : (node : ℕ) (fault : Kind) (less more : Element) (low high : List (List ℤ)) → ElementFits (owns p) less → ElementBelow less more
      → AreMatrices packs low → AreMatrices packs high → AreLowerEach packs low high
      → clears_at2 p g packs node more high fault ≡ true → clears_at2 p g packs node less low fault ≡ true
  clears_stay node fault None more low high fits below are is lower clears = refl
  clears_stay node fault (Some less) None low high fits below are is lower clears = absurd below
  clears_stay node fault (Some less) (Some more) low high fits below are is lower clears =
      all_stay fault less more low high fits below are is lower node clears

pub cleared_stays : ClearedStays
cleared_stays p g packs lists less more is_packs facts others below node a b fault at is other lower clears =
    clears_stay p g packs node fault (element_of (less node)) (element_of (more node)) (matrices_in (sizes_of packs) a) (matrices_in (sizes_of packs) b)
    (facts node at.first at.last).fits (below node at.first at.last)
    (are_matrices packs lists is_packs a is) (are_matrices packs lists is_packs b other) (are_lower packs lists is_packs a b is other lower) clears
