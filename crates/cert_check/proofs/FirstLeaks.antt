-- The places at which rows aren't inductive, as the gaps of edges tell them.
use Rattle.std.proofs.Common.{◌≡◌, ◌↔◌, ℕ, zero, suc, ◌+◌, ◌≤◌, ◌<◌, List, [], ◌∷◌, ◌++◌, map, length, slice_get, Some, None, ℤ, refl, sym, ap, ◌∙◌, subst, inl, inr, arith}
use Rattle.std.specs.List.{flat_map, range_with_len}
use Rattle.cob_graph.specs.declared.graph.Graph.{Graph}
use Rattle.dom_laws.specs.Lattice.{Lattice}
use Rattle.dom_laws.specs.Flow.{Flow, IsEdge, IsInductive}
use Rattle.cert_text.specs.declared.gap.Gap.{Gap}
use Rattle.dom_laws.specs.Leaks.{HasElements, Keeps, IsFirstLeak}
use Rattle.cert_check.specs.declared.ends.Leak.{Leak}
use Rattle.cert_check.specs.Assignments.{leak, leaks_of}
use Rattle.cert_check.proofs.Lists.{each_empty, equal_or_less, map_empty}

pub first_behind : {A : Type 0} (xs ys : List A) (x : A) → slice_get xs 0 ≡ Some x → slice_get (xs ++ ys) 0 ≡ Some x
first_behind [] ys x e = absurd (cc e)
first_behind (y ∷ xs) ys x e = e

module _ {A : Type 0} (f : ℕ → List A) where
  pub all_empty : (first count : ℕ) → ((k : ℕ) → first ≤ k → k < first + count → f k ≡ []) → flat_map f (range_with_len first count) ≡ []
  all_empty first zero h = refl
  all_empty first (suc count) h =
      ap (λ xs. xs ++ flat_map f (range_with_len (first + 1) count)) (h first (omega arith) (omega arith))
      ∙ all_empty (first + 1) count (λ k l m. h k (omega (arith, l)) (omega (arith, m)))

  -- the first element is that of the first number that has any
  first_there : (first count n : ℕ) (x : A) → first ≤ n → n < first + count → ((k : ℕ) → first ≤ k → k < n → f k ≡ []) →
      slice_get (f n) 0 ≡ Some x → slice_get (flat_map f (range_with_len first count)) 0 ≡ Some x
  first_there first zero n x l m h e = absurd (omega (arith, l, m))
  first_there first (suc count) n x l m h e =
      elim (equal_or_less first n l) [
        | inl same ↦ first_behind (f first) _ x (subst (λ k. slice_get (f k) 0 ≡ Some x) (sym same) e)
        | inr later ↦
            ap (λ xs. slice_get (xs ++ flat_map f (range_with_len (first + 1) count)) 0) (h first (omega arith) (omega (arith, later)))
            ∙ first_there (first + 1) count n x (omega (arith, later)) (omega (arith, m)) (λ k a b. h k (omega (arith, a)) b) e
      ]

first_leak : (layer e : ℕ) (gs : List Gap) (gap : Gap) → slice_get gs 0 ≡ Some gap → slice_get (map (leak layer e) gs) 0 ≡ Some (leak layer e gap)
first_leak layer e [] gap h = absurd (cc h)
first_leak layer e (x ∷ gs) gap h = ap (λ o. elim o [ None ↦ None | Some y ↦ Some (leak layer e y) ]) h

none_first : (gs : List Gap) → slice_get gs 0 ≡ None → gs ≡ []
none_first [] h = refl
none_first (x ∷ gs) h = absurd (cc h)

-- An edge has no gaps exactly where it keeps the rows.
module _ (g : Graph) (layer : ℕ) (gaps_of : ℕ → List Gap) (l : Lattice) (f : Flow) (rows : ℕ → List ℤ)
    (edges_are : f.edges ≡ length g.edges) (tells : (e : ℕ) → e ≤ length g.edges → (gaps_of e ≡ []) ↔ Keeps l f rows e) where
  abbrev leaks_along : ℕ → List Leak
  leaks_along e = map (leak layer e) (gaps_of e)

  kept_all : IsInductive l f rows → (e : ℕ) → e ≤ length g.edges → Keeps l f rows e
  kept_all is zero last = is.entry
  kept_all is (suc e) last = is.edges (suc e) (record { first = omega arith; last = omega (arith, last, edges_are) })

  pub none_leak : IsInductive l f rows → leaks_of g layer gaps_of ≡ []
  none_leak is =
      all_empty leaks_along 0 (suc (length g.edges))
      (λ k low high. ap (map (leak layer k)) ((tells k (omega (arith, high))).1 (kept_all is k (omega (arith, high)))))

  no_gaps : leaks_of g layer gaps_of ≡ [] → (e : ℕ) → e ≤ length g.edges → gaps_of e ≡ []
  no_gaps none e last =
      map_empty (leak layer e) (gaps_of e) (each_empty leaks_along 0 (suc (length g.edges)) e none (omega arith) (omega (arith, last)))

  keeps_each : leaks_of g layer gaps_of ≡ [] → (e : ℕ) → IsEdge f e → l.Below (f.post e (rows (f.source e))) (rows (f.target e))
  keeps_each none zero is = let first = is.first in absurd (omega (arith, first))
  keeps_each none (suc e) is =
      let last = is.last in
      let within : suc e ≤ length g.edges = omega (arith, last, edges_are) in
      (tells (suc e) within).0 (no_gaps none (suc e) within)

  pub keeps_all : HasElements l f rows → leaks_of g layer gaps_of ≡ [] → IsInductive l f rows
  keeps_all elements none = record {
    elements = elements;
    entry = (tells 0 (omega arith)).0 (no_gaps none 0 (omega arith));
    edges = keeps_each none;
  }

  pub leaks_here : (e : ℕ) (gap : Gap) → IsFirstLeak l f rows e → slice_get (gaps_of e) 0 ≡ Some gap →
      slice_get (leaks_of g layer gaps_of) 0 ≡ Some (leak layer e gap)
  leaks_here e gap is first =
      let last = is.within in
      first_there leaks_along 0 (suc (length g.edges)) e (leak layer e gap) (omega arith) (omega (arith, last, edges_are))
      (λ k low high. ap (map (leak layer k)) ((tells k (omega (arith, high, last, edges_are))).1 (is.before k high)))
      (first_leak layer e (gaps_of e) gap first)

  pub has_a_gap : (e : ℕ) → IsFirstLeak l f rows e → slice_get (gaps_of e) 0 ≡ None → ⊥
  has_a_gap e is none =
      let last = is.within in
      is.leaks ((tells e (omega (arith, last, edges_are))).0 (none_first (gaps_of e) none))
