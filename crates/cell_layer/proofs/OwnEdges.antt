-- A node's own edges stand together, and they alone tell whether it is clear.
use Rattle.std.proofs.Common.{◌≡◌, ◌≤◌, ◌<◌, ℕ, zero, suc, ◌+◌, ◌-◌, ◌==◌, not, Bool, true, false, ◌&&◌, ◌||◌, List, [], ◌∷◌, take, length, refl, sym, ap, subst, ◌∙◌, arith}
use Rattle.std.specs.Prelude.{slice_index_or}
use Rattle.std.specs.List.{list_all}
use Rattle.std.specs.List.Sorted.{IsNonDecreasingBy}
use Rattle.std.proofs.Props.{props}
use Rattle.std.proofs.Math.Logic.{∥∥₁_elim}
use Rattle.std.proofs.lemmas.Bool.{eq-eqb, ne_eqb}
use Rattle.std.proofs.lemmas.List.{take_more, take_all}
use Rattle.std.proofs.lemmas.List.Folds.{list_all-append}
use Rattle.std.proofs.lemmas.List.Sorted.{IsNonDecreasingBy-from_default}
use Rattle.cob_tree.specs.declared.fault.Kind.{Kind}
use Rattle.cob_tree.specs.declared.kinds.Kinds.{Kinds}
use Rattle.cob_tree.specs.Kinds.{kinds_of, every_kind, both}
use Rattle.cob_program.specs.Act.{Program}
use Rattle.cob_graph.specs.declared.graph.Edge.{Edge}
use Rattle.cob_graph.specs.declared.graph.Graph.{Graph}
use Rattle.graph_runs.specs.Places.{no_edge}
use Rattle.graph_runs.specs.Sources.{IsSourceGraph}
use Rattle.graph_runs.specs.Flows.{HasEdgesInOrder, flow_over}
use Rattle.graph_runs.proofs.Ordering.{in_order}
use Rattle.cell_layer.proofs.KindSets.{same_tests}

-- ---- edges stand in the order of their sources

module _ (p : Program) (g : Graph) (source : IsSourceGraph p g) where
  order : HasEdgesInOrder (flow_over g [] (λ e row. row))
  order = in_order p g source.graph [] (λ e row. row)

  rise_at : (i j : ℕ) → i ≤ j → j < length g.edges → (slice_index_or g.edges i no_edge).from ≤ (slice_index_or g.edges j no_edge).from
  rise_at i j le within =
      let low : suc i - 1 ≡ i = omega arith in
      let high : suc j - 1 ≡ j = omega arith in
      subst (λ m. (slice_index_or g.edges m no_edge).from ≤ (slice_index_or g.edges j no_edge).from) low
      (subst (λ m. (slice_index_or g.edges (suc i - 1) no_edge).from ≤ (slice_index_or g.edges m no_edge).from) high
      (order.by_source (suc i) (suc j) (record { first = omega arith; last = omega (arith, le, within) })
      (record { first = omega arith; last = omega (arith, within) }) (omega (arith, le))))

  rise : IsNonDecreasingBy (λ (x : Edge). x.from) g.edges
  rise = IsNonDecreasingBy-from_default (λ (x : Edge). x.from) g.edges no_edge rise_at

pub edges_rise : (p : Program) (g : Graph) → ∥ IsSourceGraph p g ∥₁ → IsNonDecreasingBy (λ (x : Edge). x.from) g.edges
edges_rise p g source = ∥∥₁_elim source (hlevel props) (λ s. rise p g s)

-- ---- tests of all edges

module _ (test : Edge → Bool) where
  all_front : (xs : List Edge) (n : ℕ) → ((k : ℕ) → k < n → test (slice_index_or xs k no_edge) ≡ true) → list_all test (take n xs) ≡ true
  all_front [] zero each = refl
  all_front [] (suc n) each = refl
  all_front (x ∷ xs) zero each = refl
  all_front (x ∷ xs) (suc n) each =
      ap (λ b. b && list_all test (take n xs)) (each 0 (omega arith)) ∙ all_front xs n (λ k within. each (suc k) (omega (arith, within)))

  all_at : (xs : List Edge) → ((k : ℕ) → k < length xs → test (slice_index_or xs k no_edge) ≡ true) → list_all test xs ≡ true
  all_at [] each = refl
  all_at (x ∷ xs) each =
      ap (λ b. b && list_all test xs) (each 0 (omega arith)) ∙ all_at xs (λ k within. each (suc k) (omega (arith, within)))

  -- where all from a place on pass
  all_behind : (xs : List Edge) (n : ℕ) → ((k : ℕ) → n ≤ k → k < length xs → test (slice_index_or xs k no_edge) ≡ true) →
      list_all test (take n xs) ≡ list_all test xs
  all_behind [] zero each = refl
  all_behind [] (suc n) each = refl
  all_behind (x ∷ xs) zero each = sym (all_at (x ∷ xs) (λ k within. each k (omega arith) within))
  all_behind (x ∷ xs) (suc n) each =
      ap (λ b. test x && b) (all_behind xs n (λ k past within. each (suc k) (omega (arith, past)) (omega (arith, within))))

  all_next : (xs : List Edge) (n : ℕ) → n < length xs → list_all test (take (n + 1) xs) ≡ (list_all test (take n xs) && test (slice_index_or xs n no_edge))
  all_next xs n within =
      let y = slice_index_or xs n no_edge in
      ap (list_all test) (take_more xs n no_edge within) ∙ list_all-append test (take n xs) (y ∷ [])
      ∙ ap (λ b. list_all test (take n xs) && b) (and_true (test y))
    where
      and_true : (b : Bool) → (b && true) ≡ b
      and_true true = refl
      and_true false = refl

-- ---- the edges of a node

-- a test, for each kind of faults, of those that leave a node
module _ (g : Graph) (node : ℕ) (test : Kind → Edge → Bool) where
  abbrev edge : ℕ → Edge
  edge k = slice_index_or g.edges k no_edge

  abbrev own_clears : Kind → Edge → Bool
  own_clears kind x = not (x.from == node) || test kind x

  -- the kinds that the first edges clear, so many
  abbrev pub cleared_to : ℕ → Kinds
  cleared_to many = kinds_of (λ kind. list_all (own_clears kind) (take many g.edges))

  other_node : (kind : Kind) (x : Edge) → ¬ x.from ≡ node → own_clears kind x ≡ true
  other_node kind x differs = ap (λ b. not b || test kind x) (ne_eqb x.from node differs)

  -- the first ones leave earlier nodes
  pub none_yet : (first : ℕ) → ((k : ℕ) → k < first → (edge k).from < node) → every_kind ≡ cleared_to first
  none_yet first earlier =
      same_tests (λ kind. true) (λ kind. list_all (own_clears kind) (take first g.edges))
      (λ kind. sym (all_front (own_clears kind) g.edges first (λ k below.
      other_node kind (edge k) (λ e. let before = earlier k below in omega (arith, e, before)))))

  -- one more edge of the node
  pub one_more : (at : ℕ) (cleared here : Kinds) → at < length g.edges → (edge at).from ≡ node → cleared ≡ cleared_to at →
      here ≡ kinds_of (λ kind. test kind (edge at)) → both cleared here ≡ cleared_to (at + 1)
  one_more at cleared here within own so_far is =
      ap (λ s. both s here) so_far ∙ (ap (both (cleared_to at)) is
      ∙ same_tests (λ kind. list_all (own_clears kind) (take at g.edges) && test kind (edge at)) (λ kind. list_all (own_clears kind) (take (at + 1) g.edges))
      (λ kind. ap (λ b. list_all (own_clears kind) (take at g.edges) && (not b || test kind (edge at))) (sym (eq-eqb (edge at).from node own))
      ∙ sym (all_next (own_clears kind) g.edges at within)))

  -- behind the last edge of the node
  pub behind_own : IsNonDecreasingBy (λ (x : Edge). x.from) g.edges → (at : ℕ) (cleared : Kinds) → at < length g.edges → node ≤ (edge at).from →
      ¬ (edge at).from ≡ node → cleared ≡ cleared_to at → cleared ≡ kinds_of (λ kind. list_all (own_clears kind) g.edges)
  behind_own rises at cleared inside not_before differs so_far =
      so_far ∙ same_tests (λ kind. list_all (own_clears kind) (take at g.edges)) (λ kind. list_all (own_clears kind) g.edges)
      (λ kind. all_behind (own_clears kind) g.edges at (λ k past within.
      let rise_to = rises at k no_edge past within in
      other_node kind (edge k) (λ same. differs (omega (arith, same, rise_to, not_before)))))

  pub behind_all : (at : ℕ) (cleared : Kinds) → length g.edges ≤ at → cleared ≡ cleared_to at → cleared ≡ kinds_of (λ kind. list_all (own_clears kind) g.edges)
  behind_all at cleared past so_far =
      so_far ∙ ap (λ (xs : List Edge). kinds_of (λ kind. list_all (own_clears kind) xs)) (take_all at g.edges past)
