-- Nodes of a graph, read one after another.
use Rattle.std.proofs.Common.{◌≡◌, ◌<◌, ◌≤◌, ◌==◌, if◌then◌else◌, false, ℕ, zero, suc, ◌+◌, List, [], ◌∷◌, ◌++◌, length, map, take, drop, get_or, refl, sym, ap, ◌∙◌, subst, add-one, length-append, eq-eqb, arith, ◌⊎◌, inl, inr}
use Rattle.std.specs.Prelude.{slice_get, Contains, Option, Some, None, IfSome}
use Rattle.std.specs.Borrow.{Bor}
use Rattle.std.specs.Option.{option_copied}
use Rattle.std.specs.List.{All}
use Rattle.std.proofs.lemmas.List.Elements.{All-contains, All-map, All-take, All-drop, All-same, All-contains_itself}
use Rattle.std.proofs.lemmas.Option.{slice_get-get_or}
use Rattle.std.proofs.lemmas.List.{drop_all, drop_more}
use Rattle.std.proofs.lemmas.Bool.Decides.{nat_tests}
use Rattle.cob_runs.specs.declared.action.Action.{Action}
use Rattle.cob_graph.specs.declared.graph.Node.{Node}
use Rattle.cob_graph.specs.declared.graph.Edge.{Edge}
use Rattle.cob_graph.specs.declared.graph.Graph.{Graph}
use Rattle.cob_graph.specs.Lookup.{node_at, edge}
use Rattle.cob_plan.specs.declared.node.Op.{Op}
use Rattle.cob_plan.specs.declared.node.PlanNode.{PlanNode}
use Rattle.cob_plan.specs.Plan.{op_edges, IsPlanNode, ArePlanNodes}
use Rattle.cob_plan.specs.Nodes.{way, at_front, Leave, AreFirst}

-- ---- edges

pub among : (edges : List Edge) (place count width : ℕ) →
    All (Contains edges) (take count (take width (drop place edges)))
among edges place count width =
    All-take (Contains edges) count (take width (drop place edges))
    (All-take (Contains edges) width (drop place edges)
    (All-drop (Contains edges) place edges (All-contains_itself edges)))

abbrev Out : List Edge → ℕ → Action × ℕ → Type 0
Out edges n w = Contains edges (edge n w.0 w.1)

leads : (all out : List Edge) (n : ℕ) → Leave n out → All (Contains all) out → All (Out all n) (map way out)
leads all out n leave within = All-map (Out all n) way out
    (λ k d h. subst (λ m. Contains all (edge m (get_or out k d).action (get_or out k d).to)) (leave k d h)
    (within k d h))

ways_out : (all out : List Edge) (n : ℕ) (o : Op) → Leave n out → All (Contains all) out → op_edges o ≡ map way out →
    (a : Action) (m : ℕ) → Contains (op_edges o) (a, m) → Contains all (edge n a m)
ways_out all out n o leave within is a m has =
    All-contains (Out all n) (op_edges o) (a, m)
    (All-same (Out all n) (op_edges o) (map way out) is (leads all out n leave within)) has

-- ---- how many leave a node

module _ (n : ℕ) (es : List Edge) (i : ℕ) where
  front_at : (d : Edge) → i < length es →
      at_front n (drop i es) ≡ (if (get_or es i d).from == n then suc (at_front n (drop (i + 1) es)) else 0)
  front_at d within = ap (at_front n) (drop_more es i d within)

  pub front_goes_on : (d : Edge) → i < length es → (get_or es i d).from ≡ n →
      at_front n (drop i es) ≡ suc (at_front n (drop (i + 1) es))
  front_goes_on d within same =
      front_at d within ∙ ap (λ b. if b then suc (at_front n (drop (i + 1) es)) else 0) (eq-eqb _ n same)

  pub front_stops : (d : Edge) → i < length es → ((get_or es i d).from ≡ n → ⊥) → at_front n (drop i es) ≡ 0
  front_stops d within other =
      let differs : ((get_or es i d).from == n) ≡ false = grind (arith, nat_tests) in
      front_at d within ∙ ap (λ b. if b then suc (at_front n (drop (i + 1) es)) else 0) differs

  pub front_ends : length es ≤ i → at_front n (drop i es) ≡ 0
  front_ends past = ap (at_front n) (drop_all i es past)

-- ---- one node more

pub is_plan_node : (g : Graph) (count number : ℕ) (node : Node) (s : PlanNode) (out : List Edge) →
    count < length g.nodes → node ≡ get_or g.nodes count node → number ≡ count + 1 →
    s.statement ≡ node.statement → s.starts ≡ node.starts → Leave number out →
    All (Contains g.edges) out → op_edges s.op ≡ map way out → IsPlanNode g number s
is_plan_node g count number node s out within is counted statement starts leave all ways = record {
  node = node;
  stands = ap (node_at g.nodes) (counted ∙ add-one count) ∙ slice_get-get_or g.nodes count node within
      ∙ ap (λ x. Some x) (sym is);
  statement = statement;
  starts = starts;
  edges = ways_out g.edges out number s.op leave all ways;
}

pub last_or_before : (xs : List PlanNode) (x : PlanNode) (i : ℕ) (s : PlanNode) → slice_get (xs ++ x ∷ []) i ≡ Some s →
    (slice_get xs i ≡ Some s) ⊎ ((i ≡ length xs) × (x ≡ s))
last_or_before [] x zero s h = inr (refl, cc)
last_or_before [] x (suc i) s h = absurd cc
last_or_before (y ∷ xs) x zero s h = inl h
last_or_before (y ∷ xs) x (suc i) s h =
    elim (last_or_before xs x i s h) [ inl e ↦ inl e | inr e ↦ inr (ap suc e.0, e.1) ]

pub nodes_more : (g : Graph) (nodes more : List PlanNode) (count number : ℕ) (s : PlanNode) → AreFirst g count nodes →
    IsPlanNode g number s → number ≡ count + 1 → more ≡ nodes ++ s ∷ [] → AreFirst g (count + 1) more
nodes_more g nodes more count number s first is counted grown = record {
  each = λ i x h. elim (last_or_before nodes s i x (ap (λ xs. slice_get xs i) (sym grown) ∙ h)) [
    | inl e ↦ first.each i x e
    | inr e ↦ subst (λ y. IsPlanNode g (suc i) y) e.1 (subst (λ n. IsPlanNode g n s)
        (counted ∙ add-one count ∙ ap suc (sym first.all ∙ sym e.0)) is)
  ];
  all = omega (arith, length-append nodes (s ∷ []), first.all, ap length grown);
}

pub all_nodes : (g : Graph) (nodes : List PlanNode) (count : ℕ) → length g.nodes ≤ count → count ≤ length g.nodes →
    AreFirst g count nodes → ArePlanNodes g nodes
all_nodes g nodes count past within first = record { each = first.each; all = omega (arith, first.all) }

-- ---- a node that is looked up

pub node_there : (g : Graph) (nodes : List PlanNode) (r : Option (Bor PlanNode)) (i n : ℕ) → ArePlanNodes g nodes → option_copied r ≡ slice_get nodes i →
    n ≡ suc i → IfSome r (λ s. IsPlanNode g n s.now)
node_there g nodes None i n are is counted = tt
node_there g nodes (Some s) i n are is counted =
    subst (λ m. IsPlanNode g m s.now) (sym counted) (are.each i s.now (sym is))
