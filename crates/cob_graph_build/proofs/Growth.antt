-- Nodes that are laid one behind another.
use Rattle.std.specs.Prelude.{Result, Ok, Err, OnOk}
use Rattle.std.proofs.Common.{ℕ, suc, ◌+◌, ◌≡◌, List, [], ◌∷◌, ◌++◌, length, map, refl, sym, ap, ◌∙◌, append_assoc, length-append, arith}
use Rattle.std.proofs.lemmas.List.{map-append, length-map, append-nil}
use Rattle.cob_graph.specs.declared.graph.Edge.{Edge}
use Rattle.cob_graph.specs.declared.graph.Node.{Node}
use Rattle.cob_graph.specs.Nodes.{Noded}
use Rattle.cob_graph.specs.Graphs.{as_node, edges_from, edges_of}
use Rattle.cob_graph_build.specs.Growing.{Seen, grown}

edges_on : (at : ℕ) (xs ys : List Noded) → edges_of at (xs ++ ys) ≡ edges_of at xs ++ edges_of (length xs + at) ys
edges_on at [] ys = ap (λ n. edges_of n ys) (omega arith)
edges_on at (x ∷ xs) ys =
    ap (λ es. edges_from at x.out ++ es) (edges_on (suc at) xs ys)
    ∙ sym (append_assoc (edges_from at x.out) (edges_of (suc at) xs) (edges_of (length xs + suc at) ys))
    ∙ ap (λ n. (edges_from at x.out ++ edges_of (suc at) xs) ++ edges_of n ys) (omega arith)

abbrev seen_of : List Node → List Edge → Seen
seen_of ns es = record { nodes = ns; edges = es }

same_seen : (a b : Seen) → a.nodes ≡ b.nodes → a.edges ≡ b.edges → a ≡ b
same_seen a b n e = ap (λ ns. seen_of ns a.edges) n ∙ ap (λ es. seen_of b.nodes es) e

behind : (s : Seen) (xs : List Noded) → suc (length (s.nodes ++ map as_node xs)) ≡ length xs + suc (length s.nodes)
behind s xs = omega (arith, length-append s.nodes (map as_node xs), length-map xs as_node)

pub grown_twice : (s : Seen) (xs ys : List Noded) → grown (grown s xs) ys ≡ grown s (xs ++ ys)
grown_twice s xs ys = same_seen (grown (grown s xs) ys) (grown s (xs ++ ys))
    (append_assoc s.nodes (map as_node xs) (map as_node ys) ∙ ap (λ ns. s.nodes ++ ns) (sym (map-append as_node xs ys)))
    (append_assoc s.edges (edges_of (suc (length s.nodes)) xs) (edges_of (suc (length (s.nodes ++ map as_node xs))) ys)
    ∙ ap (λ es. s.edges ++ es) (ap (λ n. edges_of (suc (length s.nodes)) xs ++ edges_of n ys) (behind s xs)
    ∙ sym (edges_on (suc (length s.nodes)) xs ys)))

-- two lots behind one another
pub grown_more : (old mid new : Seen) (xs ys : List Noded) → mid ≡ grown old xs → new ≡ grown mid ys →
    new ≡ grown old (xs ++ ys)
grown_more old mid new xs ys one two = two ∙ ap (λ s. grown s ys) one ∙ grown_twice old xs ys

pub grown_none : (s : Seen) → s ≡ grown s []
grown_none s = same_seen s (grown s []) (sym (append-nil s.nodes)) (sym (append-nil s.edges))

-- what follows where there is a value
pub on_ok : {T E A B : Type 0} (r : Result T E) → (A → B) → OnOk r A → OnOk r B
on_ok (Ok x) f h = f h
on_ok (Err e) f h = tt
