-- Heads, marked edge by edge.
use Rattle.std.proofs.Common.{◌≡◌, ◌≤◌, ◌<◌, ℕ, zero, suc, ◌+◌, ◌-◌, ◌==◌, ◌&&◌, ◌||◌, nat_le, Bool, true, false, if◌then◌else◌, List, [], ◌∷◌, ◌++◌, map, length, ℤ, refl, sym, ap, subst, ◌∙◌, arith}
use Rattle.std.specs.Prelude.{slice_set, slice_index_or, replicate}
use Rattle.std.specs.List.{list_any, range_with_len}
use Rattle.std.proofs.lemmas.Bool.{eqb-true, eqb-false, eq-eqb, ne_eqb, leb-true, le-leb, and_parts, and_from, or_right}
use Rattle.cob_graph.specs.declared.graph.Edge.{Edge}
use Rattle.cob_graph.specs.declared.graph.Graph.{Graph}
use Rattle.dom_laws.specs.Flow.{IsHead}
use Rattle.graph_runs.specs.Places.{no_edge, edge_at}
use Rattle.graph_runs.specs.Flows.{flow_over}
use Rattle.cell_layer.specs.Heads.{goes_back, is_head, heads_of}

-- one more edge
any_more : (test : Edge → Bool) (xs : List Edge) (x : Edge) → list_any test (xs ++ x ∷ []) ≡ (test x || list_any test xs)
any_more test [] x = refl
any_more test (y ∷ xs) x = ap (λ b. test y || b) (any_more test xs x) ∙ swap (test y) (test x) (list_any test xs)
  where
    swap : (a b c : Bool) → (a || (b || c)) ≡ (b || (a || c))
    swap true true c = refl
    swap true false c = refl
    swap false true c = refl
    swap false false c = refl

-- those of nodes from a number on
abbrev from_node : ℕ → ℕ → List Edge → List Bool
from_node at count edges = map (is_head edges) (range_with_len at count)

-- ---- nodes that an edge doesn't go back to

other : (edges : List Edge) (x : Edge) (node : ℕ) → goes_back node x ≡ false → is_head (edges ++ x ∷ []) node ≡ is_head edges node
other edges x node isnt = any_more (goes_back node) edges x ∙ ap (λ b. b || is_head edges node) isnt

beyond : (at count : ℕ) (edges : List Edge) (x : Edge) → ((node : ℕ) → at ≤ node → goes_back node x ≡ false) →
    from_node at count (edges ++ x ∷ []) ≡ from_node at count edges
beyond at zero edges x none = refl
beyond at (suc count) edges x none =
    ap (λ b. b ∷ from_node (at + 1) count (edges ++ x ∷ [])) (other edges x at (none at (omega arith)))
    ∙ ap (λ bs. is_head edges at ∷ bs) (beyond (at + 1) count edges x (λ node h. none node (omega (arith, h))))

and_false : (b : Bool) → (b && false) ≡ false
and_false true = refl
and_false false = refl

forward : (node : ℕ) (x : Edge) → nat_le x.to x.from ≡ false → goes_back node x ≡ false
forward node x isnt = ap (λ b. (x.to == node) && b) isnt ∙ and_false (x.to == node)

elsewhere : (node : ℕ) (x : Edge) → (x.to == node) ≡ false → goes_back node x ≡ false
elsewhere node x isnt = ap (λ b. b && nat_le x.to x.from) isnt

-- ---- the node that it goes back to

set_one : (at count : ℕ) (edges : List Edge) (x : Edge) → nat_le x.to x.from ≡ true → at ≤ x.to → x.to < at + count →
    from_node at count (edges ++ x ∷ []) ≡ slice_set (from_node at count edges) (x.to - at) true
set_one at zero edges x back low high = absurd (omega (arith, low, high))
set_one at (suc count) edges x back low high =
    by_here (x.to == at) refl (λ l. set_one (at + 1) count edges x back l (omega (arith, high)))
  where
    rest : List Bool
    rest = from_node (at + 1) count edges

    by_here : (b : Bool) → (x.to == at) ≡ b →
        (at + 1 ≤ x.to → from_node (at + 1) count (edges ++ x ∷ []) ≡ slice_set rest (x.to - (at + 1)) true) →
        from_node at (suc count) (edges ++ x ∷ []) ≡ slice_set (is_head edges at ∷ rest) (x.to - at) true
    by_here true here later =
        let same = eqb-true x.to at here in
        let zero_ : x.to - at ≡ 0 = omega (arith, same) in
        let marked : is_head (edges ++ x ∷ []) at ≡ true =
        any_more (goes_back at) edges x ∙ ap (λ b. (b && nat_le x.to x.from) || is_head edges at) here
        ∙ ap (λ b. b || is_head edges at) back in
        ap (λ b. b ∷ from_node (at + 1) count (edges ++ x ∷ [])) marked
        ∙ ap (λ bs. true ∷ bs) (beyond (at + 1) count edges x (λ node h. elsewhere node x (ne_eqb x.to node (λ e. omega (arith, e, same, h)))))
        ∙ ap (λ k. slice_set (is_head edges at ∷ rest) k true) (sym zero_)
    by_here false there later =
        let differs = eqb-false x.to at there in
        let above : at + 1 ≤ x.to = omega (arith, low, differs) in
        let next : x.to - at ≡ suc (x.to - (at + 1)) = omega (arith, above) in
        ap (λ b. b ∷ from_node (at + 1) count (edges ++ x ∷ [])) (other edges x at (elsewhere at x there))
        ∙ ap (λ bs. is_head edges at ∷ bs) (later above)
        ∙ ap (λ k. slice_set (is_head edges at ∷ rest) k true) (sym next)

-- one edge more
pub marked : (nodes : ℕ) (edges : List Edge) (x : Edge) → 1 ≤ x.to → x.to ≤ nodes →
    heads_of nodes (edges ++ x ∷ []) ≡ (if nat_le x.to x.from then slice_set (heads_of nodes edges) (x.to - 1) true else heads_of nodes edges)
marked nodes edges x low high = by_way (nat_le x.to x.from) refl
  where
    by_way : (b : Bool) → nat_le x.to x.from ≡ b →
        heads_of nodes (edges ++ x ∷ []) ≡ (if b then slice_set (heads_of nodes edges) (x.to - 1) true else heads_of nodes edges)
    by_way true back = set_one 1 nodes edges x back low (omega (arith, high))
    by_way false on = beyond 1 nodes edges x (λ node h. forward node x on)

-- no edge at all
pub none_marked : (nodes : ℕ) → replicate nodes false ≡ heads_of nodes []
none_marked nodes = none_from 1 nodes
  where
    none_from : (at count : ℕ) → replicate count false ≡ from_node at count []
    none_from at zero = refl
    none_from at (suc count) = ap (λ bs. false ∷ bs) (none_from (at + 1) count)

-- ---- heads of a flow

mark_at : (at count k : ℕ) (edges : List Edge) → k < count → slice_index_or (from_node at count edges) k false ≡ is_head edges (at + k)
mark_at at zero k edges within = absurd (omega (arith, within))
mark_at at (suc count) zero edges within = ap (is_head edges) (let e : at ≡ at + 0 = omega arith in e)
mark_at at (suc count) (suc k) edges within =
    mark_at (at + 1) count k edges (omega (arith, within)) ∙ ap (is_head edges) (let e : at + 1 + k ≡ at + suc k = omega arith in e)

pub length-heads : (nodes : ℕ) (edges : List Edge) → length (heads_of nodes edges) ≡ nodes
length-heads nodes edges = length_from 1 nodes
  where
    length_from : (at count : ℕ) → length (from_node at count edges) ≡ count
    length_from at zero = refl
    length_from at (suc count) = ap suc (length_from (at + 1) count)

-- an edge that goes back to the node stands at some place
record GoesBackAt (edges : List Edge) (node : ℕ) : Type 0 where
  at : ℕ
  within : at < length edges
  back : goes_back node (slice_index_or edges at no_edge) ≡ true

found_back : (edges : List Edge) (node : ℕ) → is_head edges node ≡ true → GoesBackAt edges node
found_back [] node h = absurd (cc)
found_back (x ∷ edges) node h = by_first (goes_back node x) refl h (λ k. found_back edges node k)
  where
    later : GoesBackAt edges node → GoesBackAt (x ∷ edges) node
    later f = record { at = suc f.at; within = omega (arith, f.within); back = f.back }

    by_first : (b : Bool) → goes_back node x ≡ b → (b || is_head edges node) ≡ true → (is_head edges node ≡ true → GoesBackAt edges node) →
        GoesBackAt (x ∷ edges) node
    by_first true e k rest = record { at = 0; within = omega arith; back = e }
    by_first false e k rest = later (rest k)

back_found : (edges : List Edge) (node k : ℕ) → k < length edges → goes_back node (slice_index_or edges k no_edge) ≡ true → is_head edges node ≡ true
back_found [] node k within back = absurd (omega (arith, within))
back_found (x ∷ edges) node zero within back = ap (λ b. b || is_head edges node) back
back_found (x ∷ edges) node (suc k) within back = or_right (goes_back node x) (is_head edges node) (back_found edges node k (omega (arith, within)) back)

module _ (g : Graph) (entry : List ℤ) (post : ℕ → List ℤ → List ℤ) where
  pub head_is : (node : ℕ) → is_head g.edges node ≡ true → IsHead (flow_over g entry post) node
  head_is node h =
      let f = found_back g.edges node h in
      let x = slice_index_or g.edges f.at no_edge in
      let two = and_parts (x.to == node) (nat_le x.to x.from) f.back in
      let same : f.at ≡ suc f.at - 1 = omega arith in (
        suc f.at,
        record { first = omega arith; last = f.within },
        subst (λ k. (slice_index_or g.edges k no_edge).to ≤ (slice_index_or g.edges k no_edge).from) same (leb-true x.to x.from two.1),
        subst (λ k. (slice_index_or g.edges k no_edge).to ≡ node) same (eqb-true x.to node two.0),
      )

  pub is_head_of : (node : ℕ) → IsHead (flow_over g entry post) node → is_head g.edges node ≡ true
  is_head_of node (e, is, back, at) =
      back_found g.edges node (e - 1) (omega (arith, is.first, is.last))
      (and_from ((edge_at g e).to == node) (nat_le (edge_at g e).to (edge_at g e).from) (eq-eqb (edge_at g e).to node at) (le-leb (edge_at g e).to (edge_at g e).from back))

pub mark_of : (g : Graph) (node : ℕ) → 1 ≤ node → node ≤ length g.nodes →
    slice_index_or (heads_of (length g.nodes) g.edges) (node - 1) false ≡ is_head g.edges node
mark_of g node low high =
    mark_at 1 (length g.nodes) (node - 1) g.edges (omega (arith, low, high)) ∙ ap (is_head g.edges) (let e : 1 + (node - 1) ≡ node = omega (arith, low) in e)
