-- The nodes and edges of a graph are those of the program with its copies written in.
use Rattle.std.proofs.Common.{◌≡◌, inl, inr, ℕ, zero, suc, ◌+◌, List, [], ◌∷◌, Some, refl, sym, ap, subst, ◌∙◌, arith}
use Rattle.std.specs.Prelude.{slice_get, Contains}
use Rattle.std.specs.Option.{option_map}
use Rattle.std.proofs.lemmas.Option.{slice_get-map, same_Some, none-some}
use Rattle.std.proofs.lemmas.List.Elements.{Contains-append_left, Contains-append_right, Contains-append_cases}
use Rattle.cob_program.specs.Act.{Program}
use Rattle.cob_runs.specs.declared.action.Action.{Action}
use Rattle.cob_graph.specs.declared.graph.Edge.{Edge}
use Rattle.cob_graph.specs.declared.graph.Graph.{Graph}
use Rattle.cob_graph.specs.Nodes.{Noded}
use Rattle.cob_graph.specs.Graphs.{all_nodes, as_node, edges_from, edges_of, IsGraph}
use Rattle.cob_graph.specs.Lookup.{node_at, edge}
use Rattle.cob_graph_laws.specs.AsLaid.{NodesAreLaid, EdgesAreLaid}

pub nodes_are_laid : NodesAreLaid
nodes_are_laid p g is zero = refl
nodes_are_laid p g is (suc n) =
    ap (λ ns. slice_get ns n) is.nodes ∙ slice_get-map as_node (all_nodes p is.copies) n

-- ---- edges

from_out : (out : List (Action × ℕ)) (n : ℕ) (a : Action) (m : ℕ) → Contains out (a, m) →
    Contains (edges_from n out) (edge n a m)
from_out [] n a m (k, l, e) = absurd (omega (arith, l))
from_out (x ∷ xs) n a m (zero, l, e) = (0, omega arith, ap (λ (y : Action × ℕ). edge n y.0 y.1) e)
from_out (x ∷ xs) n a m (suc k, l, e) =
    Contains-append_right (edge n x.0 x.1 ∷ []) (edges_from n xs) (edge n a m)
    (from_out xs n a m (k, omega (arith, l), e))

to_out : (out : List (Action × ℕ)) (at n : ℕ) (a : Action) (m : ℕ) → Contains (edges_from at out) (edge n a m) →
    (n ≡ at) × Contains out (a, m)
to_out [] at n a m (k, l, e) = absurd (omega (arith, l))
to_out (x ∷ xs) at n a m (zero, l, e) =
    (sym (ap (λ (y : Edge). y.from) e), (0, omega arith, ap (λ (y : Edge). (y.action, y.to)) e))
to_out (x ∷ xs) at n a m (suc k, l, e) =
    let r = to_out xs at n a m (k, omega (arith, l), e) in
    (r.0, Contains-append_right (x ∷ []) xs (a, m) r.1)

-- an edge of a node with so many before it, where they count from a number on
from_node : (ns : List Noded) (at k n : ℕ) (x : Noded) (a : Action) (m : ℕ) → n ≡ at + k → slice_get ns k ≡ Some x →
    Contains x.out (a, m) → Contains (edges_of at ns) (edge n a m)
from_node [] at k n x a m e is there = absurd (none-some x is)
from_node (y ∷ ns) at zero n x a m e is there =
    let same : y ≡ x = same_Some y x is in
    Contains-append_left (edges_from at y.out) (edges_of (suc at) ns) (edge n a m)
    (subst (λ (i : ℕ). Contains (edges_from i y.out) (edge n a m)) (omega (arith, e))
    (from_out y.out n a m (subst (λ (z : Noded). Contains z.out (a, m)) (sym same) there)))
from_node (y ∷ ns) at (suc k) n x a m e is there =
    Contains-append_right (edges_from at y.out) (edges_of (suc at) ns) (edge n a m)
    (from_node ns (suc at) k n x a m (omega (arith, e)) is there)

to_node : (ns : List Noded) (at n : ℕ) (a : Action) (m : ℕ) → Contains (edges_of at ns) (edge n a m) →
    (k : ℕ) × (n ≡ at + k) × (x : Noded) × (slice_get ns k ≡ Some x) × Contains x.out (a, m)
to_node [] at n a m (k, l, e) = absurd (omega (arith, l))
to_node (y ∷ ns) at n a m h =
    elim (Contains-append_cases (edges_from at y.out) (edges_of (suc at) ns) (edge n a m) h) [
      | inl l ↦ (let r = to_out y.out at n a m l in (0, omega (arith, r.0), y, refl, r.1))
      | inr r ↦ (let f = to_node ns (suc at) n a m r in (suc f.0, omega (arith, f.1), f.2, f.3, f.4))
    ]

-- ---- the graph's own

pub node_there : (p : Program) (g : Graph) (is : IsGraph p g) (n : ℕ) (x : Noded) →
    node_at (all_nodes p is.copies) n ≡ Some x → node_at g.nodes n ≡ Some (as_node x)
node_there p g is n x e = nodes_are_laid p g is n ∙ ap (option_map as_node) e

pub edge_there : (p : Program) (g : Graph) (is : IsGraph p g) (n : ℕ) (x : Noded) (a : Action) (m : ℕ) →
    node_at (all_nodes p is.copies) n ≡ Some x → Contains x.out (a, m) → Contains g.edges (edge n a m)
edge_there p g is zero x a m e there = absurd (none-some x e)
edge_there p g is (suc n) x a m e there =
    subst (λ (es : List Edge). Contains es (edge (suc n) a m)) (sym is.edges)
    (from_node (all_nodes p is.copies) 1 n (suc n) x a m (omega arith) e there)

out_of : (p : Program) (g : Graph) (is : IsGraph p g) (n : ℕ) (a : Action) (m : ℕ) → Contains g.edges (edge n a m) →
    (x : Noded) × (node_at (all_nodes p is.copies) n ≡ Some x) × Contains x.out (a, m)
out_of p g is n a m h =
    let f = to_node (all_nodes p is.copies) 1 n a m (subst (λ (es : List Edge). Contains es (edge n a m)) is.edges h) in
    let same : suc f.0 ≡ n = omega (arith, f.1) in
    (f.2, subst (λ (i : ℕ). node_at (all_nodes p is.copies) i ≡ Some f.2) same f.3, f.4)

pub edges_are_laid : EdgesAreLaid
edges_are_laid p g is n a m = (out_of p g is n a m, λ h. edge_there p g is n h.0 a m h.1 h.2)
