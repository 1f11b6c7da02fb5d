-- The nodes laid of a program, gone through with their edges.
use Rattle.std.proofs.Common.{◌≡◌, ◌<◌, ◌≤◌, ◌==◌, if◌then◌else◌, ℕ, zero, suc, ◌+◌, false, List, [], ◌∷◌, ◌++◌, length, map, take, drop, get_or, refl, sym, ap, ◌∙◌, subst, add-one, eq-eqb, arith, inl, inr}
use Rattle.std.specs.Prelude.{slice_get, Some, None}
use Rattle.std.specs.Option.{option_map}
use Rattle.std.proofs.lemmas.Bool.Decides.{nat_tests}
use Rattle.std.proofs.lemmas.List.{drop-drop, length-map}
use Rattle.std.proofs.Math.Seq.{take-append_seam, drop-append_seam}
use Rattle.std.proofs.lemmas.Option.{same_Some, none-some, slice_get-get_or, slice_get-map}
use Rattle.cob_runs.specs.declared.action.Action.{Action}
use Rattle.cob_graph.specs.declared.graph.Node.{Node}
use Rattle.cob_graph.specs.declared.graph.Edge.{Edge}
use Rattle.cob_graph.specs.declared.graph.Graph.{Graph}
use Rattle.cob_graph.specs.Nodes.{Noded}
use Rattle.cob_graph.specs.Graphs.{as_node, final_node, edges_from, edges_of}
use Rattle.cob_plan.specs.declared.node.Op.{Op}
use Rattle.cob_plan.specs.declared.node.Op.TheVariants as op
use Rattle.cob_plan.specs.declared.node.PlanNode.{PlanNode}
use Rattle.cob_plan.specs.Plan.{op_edges}
use Rattle.cob_plan.specs.Nodes.{way, at_front, AreOfOne, IsLaidOut, IsNoded, AreNoded}
use Rattle.cob_plan.proofs.NodeList.{last_or_before}

-- ---- the ways on from one node

op_ways : (o : Op) → AreOfOne (op_edges o)
op_ways (op.Skip to) = tt
op_ways (op.Assign to) = tt
op_ways (op.Show to) = tt
op_ways (op.SetCount to) = tt
op_ways (op.CountDown to) = tt
op_ways (op.Compute fine None) = tt
op_ways (op.Compute fine (Some size)) = refl
op_ways (op.Test k held other) = refl
op_ways (op.Open k fine bad) = refl
op_ways (op.Close k fine bad) = refl
op_ways (op.Read found at_end bad) = record { first = refl; second = refl; third = refl }
op_ways (op.Write fine bad) = refl
op_ways op.Final = tt

pub ways_of_op : (o : Op) (ways : List (Action × ℕ)) → op_edges o ≡ ways → AreOfOne ways
ways_of_op o ways is = subst AreOfOne is (op_ways o)

pub never_four : (ways : List (Action × ℕ)) → 4 ≤ length ways → AreOfOne ways → ⊥
never_four [] l h = omega (arith, l)
never_four (x ∷ []) l h = omega (arith, l)
never_four (x ∷ y ∷ []) l h = omega (arith, l)
never_four (x ∷ y ∷ z ∷ []) l h = omega (arith, l)
never_four (x ∷ y ∷ z ∷ w ∷ ways) l h = h

-- ---- edges of one node in front of those of later ones

length-from : (n : ℕ) (out : List (Action × ℕ)) → length (edges_from n out) ≡ length out
length-from n [] = refl
length-from n (x ∷ out) = ap suc (length-from n out)

ways_from : (n : ℕ) (out : List (Action × ℕ)) → map way (edges_from n out) ≡ out
ways_from n [] = refl
ways_from n (x ∷ out) = ap (λ xs. x ∷ xs) (ways_from n out)

none_of : (n m : ℕ) → n < m → (out : List (Action × ℕ)) (es : List Edge) → at_front n es ≡ 0 →
    at_front n (edges_from m out ++ es) ≡ 0
none_of n m above [] es none = none
none_of n m above (y ∷ out) es none =
    let other : (m == n) ≡ false = grind (arith, nat_tests) in
    ap (λ b. if b then suc (at_front n (edges_from m out ++ es)) else 0) other

none_in_front : (n m : ℕ) → n < m → (ns : List Noded) → at_front n (edges_of m ns) ≡ 0
none_in_front n m above [] = refl
none_in_front n m above (x ∷ ns) =
    none_of n m above x.out (edges_of (suc m) ns) (none_in_front n (suc m) (omega (arith, above)) ns)

in_front : (n : ℕ) (out : List (Action × ℕ)) (ns : List Noded) →
    at_front n (edges_from n out ++ edges_of (suc n) ns) ≡ length (edges_from n out)
in_front n [] ns = none_in_front n (suc n) (omega arith) ns
in_front n (x ∷ out) ns =
    ap (λ b. if b then suc (at_front n (edges_from n out ++ edges_of (suc n) ns)) else 0) (eq-eqb n n refl)
    ∙ ap suc (in_front n out ns)

-- ---- one node more

there : {A : Type 0} (xs : List A) (i : ℕ) → (d : A) → i < length xs → (x : A) × (slice_get xs i ≡ Some x)
there xs i d within = (get_or xs i d, slice_get-get_or xs i d within)

drop_at : {A : Type 0} (xs : List A) (i : ℕ) (x : A) → slice_get xs i ≡ Some x → drop i xs ≡ x ∷ drop (suc i) xs
drop_at [] i x e = absurd (none-some x e)
drop_at (y ∷ xs) zero x e = ap (λ z. z ∷ xs) (same_Some y x e)
drop_at (y ∷ xs) (suc i) x e = drop_at xs i x e

-- what is left of the edges are those of the nodes that are left
pub record IsFollowed (g : Graph) (ns : List Noded) (count place : ℕ) (nodes : List PlanNode) : Type 0 where
  pub rest : drop place g.edges ≡ edges_of (suc count) (drop count ns)
  pub done : AreNoded ns nodes

pub followed_first : (g : Graph) (ns : List Noded) → IsLaidOut g ns → IsFollowed g ns 0 0 []
followed_first g ns laid = record { rest = laid.edges; done = record { each = λ i s e. absurd (none-some s e) } }

module _ (g : Graph) (ns : List Noded) (laid : IsLaidOut g ns) (count place number : ℕ) (node : Node)
    (within : count < length g.nodes) (is : node ≡ get_or g.nodes count node) (counted : number ≡ count + 1)
    (nodes : List PlanNode) (here : IsFollowed g ns count place nodes) (out : List Edge)
    (front : out ≡ take (at_front number (drop place g.edges)) (drop place g.edges)) where
  abbrev own : (x : Noded) × (slice_get ns count ≡ Some x)
  own = there ns count final_node (omega (arith, within, ap length laid.nodes, length-map ns as_node))

  abbrev x : Noded
  x = own.0

  same : as_node x ≡ node
  same = same_Some (as_node x) node
      (ap (option_map as_node) (sym own.1) ∙ sym (slice_get-map as_node ns count)
      ∙ ap (λ xs. slice_get xs count) (sym laid.nodes) ∙ slice_get-get_or g.nodes count node within
      ∙ ap (λ y. Some y) (sym is))

  abbrev later : List Edge
  later = edges_of (suc (suc count)) (drop (suc count) ns)

  left : drop place g.edges ≡ edges_from (suc count) x.out ++ later
  left = here.rest ∙ ap (edges_of (suc count)) (drop_at ns count x own.1)

  out_is : out ≡ edges_from (suc count) x.out
  out_is =
      front ∙ ap (λ n. take (at_front n (drop place g.edges)) (drop place g.edges)) (counted ∙ add-one count)
      ∙ ap (λ es. take (at_front (suc count) es) es) left
      ∙ ap (λ n. take n (edges_from (suc count) x.out ++ later)) (in_front (suc count) x.out (drop (suc count) ns))
      ∙ take-append_seam (edges_from (suc count) x.out) later

  ways : map way out ≡ x.out
  ways = ap (map way) out_is ∙ ways_from (suc count) x.out

  pub ways_of_one : AreOfOne (map way out)
  ways_of_one = subst AreOfOne (sym ways) (laid.each count x own.1)

  behind : drop (place + length out) g.edges ≡ edges_of (suc (suc count)) (drop (suc count) ns)
  behind =
      sym (drop-drop (length out) place g.edges) ∙ ap (drop (length out)) left
      ∙ ap (λ n. drop n (edges_from (suc count) x.out ++ later)) (ap length out_is)
      ∙ drop-append_seam (edges_from (suc count) x.out) later

  pub followed_more : (s : PlanNode) (more : List PlanNode) → length nodes ≡ count → s.statement ≡ node.statement →
      s.starts ≡ node.starts → op_edges s.op ≡ map way out → more ≡ nodes ++ s ∷ [] →
      IsFollowed g ns (count + 1) (place + length out) more
  followed_more s more many statement starts edges grown = record {
    rest = subst (λ n. drop (place + length out) g.edges ≡ edges_of (suc n) (drop n ns)) (sym (add-one count)) behind;
    done = record {
      each = λ i y h. elim (last_or_before nodes s i y (ap (λ xs. slice_get xs i) (sym grown) ∙ h)) [
        | inl e ↦ here.done.each i y e
        | inr e ↦ (
          x,
          ap (slice_get ns) (e.0 ∙ many) ∙ own.1,
          subst (IsNoded x) e.1 (record {
            statement = statement ∙ ap (λ (n : Node). n.statement) (sym same);
            starts = starts ∙ ap (λ (n : Node). n.starts) (sym same);
            edges = edges ∙ ways;
          }),
        )
      ];
    };
  }
