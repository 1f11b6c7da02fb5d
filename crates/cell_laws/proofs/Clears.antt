-- What is cleared at a node is cleared on each of its edges, and where less is known to be possible.
use Rattle.std.proofs.Common.{◌≡◌, ℕ, suc, zero, ◌-◌, ◌<◌, ◌==◌, Bool, true, false, not, ◌||◌, List, [], ◌∷◌, length, Option, Some, None, refl, arith}
use Rattle.std.specs.Option.{option_map_or}
use Rattle.std.specs.Prelude.{slice_index_or}
use Rattle.std.specs.List.{list_all}
use Rattle.std.proofs.lemmas.Bool.{and_parts, and_from, eq-eqb}
use Rattle.cob_tree.specs.declared.fault.Kind.{Kind}
use Rattle.cob_program.specs.Act.{Act, Program}
use Rattle.cob_runs.specs.Effects.{act_at}
use Rattle.cob_graph.specs.declared.graph.Edge.{Edge}
use Rattle.cob_graph.specs.declared.graph.Graph.{Graph}
use Rattle.interval_domain.specs.Known.{Known}
use Rattle.interval_domain.specs.Elements.{Element, CellsFit, ElementFits, CellsBelow, ElementBelow}
use Rattle.graph_runs.specs.Places.{no_edge, edge_at, Leaves}
use Rattle.cell_steps.specs.OwnRanges.{owns}
use Rattle.cell_steps.specs.Edges.{clears_edge}
use Rattle.cell_laws.proofs.EachEdge.{all_clears_stay}
use Rattle.cell_laws.specs.Layer.{left, edge_clears, leaves_clear, clears_at}

-- ---- all edges

pub all_at : (test : Edge → Bool) (xs : List Edge) (k : ℕ) → list_all test xs ≡ true → k < length xs →
    test (slice_index_or xs k no_edge) ≡ true
all_at test [] k all within = absurd (omega (arith, within))
all_at test (x ∷ xs) zero all within = (and_parts (test x) (list_all test xs) all).0
all_at test (x ∷ xs) (suc k) all within = all_at test xs k (and_parts (test x) (list_all test xs) all).1 (omega (arith, within))

pub all_kept : (test other : Edge → Bool) → ((x : Edge) → test x ≡ true → other x ≡ true) → (xs : List Edge) → list_all test xs ≡ true →
    list_all other xs ≡ true
all_kept test other more [] all = refl
all_kept test other more (x ∷ xs) all =
    let two = and_parts (test x) (list_all test xs) all in
    and_from (other x) (list_all other xs) (more x two.0) (all_kept test other more xs two.1)

-- ---- edges that leave a node

module _ (p : Program) (g : Graph) where
  pub cleared_on : (node e : ℕ) (fault : Kind) (cells : List Known) → Leaves g e node →
      list_all (leaves_clear p g node fault cells) g.edges ≡ true → edge_clears p g fault cells (edge_at g e) ≡ true
  cleared_on node e fault cells leaves all =
      by_source ((edge_at g e).from == node) (eq-eqb (edge_at g e).from node leaves.source)
      (all_at (leaves_clear p g node fault cells) g.edges (e - 1) all (omega (arith, leaves.first, leaves.last)))
    where
      by_source : (b : Bool) → b ≡ true → (not b || edge_clears p g fault cells (edge_at g e)) ≡ true →
          edge_clears p g fault cells (edge_at g e) ≡ true
      by_source true same clears = clears
      by_source false same clears = absurd (cc)

  edge_stays : (fault : Kind) (less more : List Known) (x : Edge) → CellsFit (owns p) less → CellsBelow less more →
      edge_clears p g fault more x ≡ true → edge_clears p g fault less x ≡ true
  edge_stays fault less more x h below = by_act (act_at p (left g x))
    where
      by_act : (o : Option Act) →
          option_map_or (λ a. clears_edge p (left g x) a x.action more fault) o true ≡ true →
          option_map_or (λ a. clears_edge p (left g x) a x.action less fault) o true ≡ true
      by_act None clears = refl
      by_act (Some a) clears = all_clears_stay p (left g x) a x.action less more fault h below clears

  leaving_stays : (node : ℕ) (fault : Kind) (less more : List Known) (x : Edge) → CellsFit (owns p) less → CellsBelow less more →
      leaves_clear p g node fault more x ≡ true → leaves_clear p g node fault less x ≡ true
  leaving_stays node fault less more x h below = by_source (x.from == node)
    where
      by_source : (b : Bool) → (not b || edge_clears p g fault more x) ≡ true → (not b || edge_clears p g fault less x) ≡ true
      by_source true clears = edge_stays fault less more x h below clears
      by_source false clears = refl

  pub clears_stay : (node : ℕ) (fault : Kind) (y z : Element) → ElementFits (owns p) y → ElementBelow y z →
      clears_at p g node z fault ≡ true → clears_at p g node y fault ≡ true
  clears_stay node fault None z h below clears = refl
  clears_stay node fault (Some less) None h below clears = absurd below
  clears_stay node fault (Some less) (Some more) h below clears =
      all_kept (leaves_clear p g node fault more) (leaves_clear p g node fault less)
      (λ x k. leaving_stays node fault less more x h below k) g.edges clears
