-- A program's graph is a system: its edges stand in the order of the nodes that they leave, and lead to nodes.
use Rattle.std.proofs.Common.{◌≡◌, ◌≤◌, ◌<◌, ℕ, zero, suc, ◌+◌, ◌-◌, ◌*◌, List, [], ◌∷◌, ◌++◌, length, ℤ, sym, ap, subst, ◌∙◌, arith}
use Rattle.std.specs.Prelude.{slice_index_or}
use Rattle.std.proofs.lemmas.List.{length-map}
use Rattle.cob_program.specs.Act.{Program}
use Rattle.cob_runs.specs.declared.action.Action.{Action}
use Rattle.cob_graph.specs.declared.graph.Edge.{Edge}
use Rattle.cob_graph.specs.declared.graph.Graph.{Graph}
use Rattle.cob_graph.specs.Nodes.{Noded}
use Rattle.cob_graph.specs.Graphs.{all_nodes, as_node, final_of, edges_from, edges_of, IsGraph}
use Rattle.cob_graph.proofs.Lengths.{final_is}
use Rattle.dom_laws.specs.Flow.{IsEdge}
use Rattle.graph_runs.specs.Places.{no_edge, edge_at}
use Rattle.graph_runs.specs.Flows.{flow_over, HasEdgesInOrder, GraphsAreFlows}
use Rattle.graph_runs.proofs.Few.{few_of, program_few}
use Rattle.graph_runs.proofs.Targets.{IsIn, OutIn, EachIn, program_in}

-- ---- edges in the order of their sources, from one node on

module _ (final : ℕ) where
  pub record IsGood (low : ℕ) (x : Edge) : Type 0 where
    pub above : low ≤ x.from
    pub below : x.from ≤ final
    pub to : IsIn final x.to

  abbrev pub AreOrdered : ℕ → List Edge → Type 0
  AreOrdered low [] = Unit {0}
  AreOrdered low (x ∷ xs) = IsGood low x × AreOrdered x.from xs

  lower : (low high : ℕ) (xs : List Edge) → low ≤ high → AreOrdered high xs → AreOrdered low xs
  lower low high [] l o = tt
  lower low high (x ∷ xs) l o =
      (record { above = omega (arith, l, o.0.above); below = o.0.below; to = o.0.to }, o.1)

  -- the edges of one node, before those of later ones
  of_node : (at : ℕ) (out : List (Action × ℕ)) (xs : List Edge) → at ≤ final → OutIn final out → AreOrdered at xs →
      AreOrdered at (edges_from at out ++ xs)
  of_node at [] xs l i o = o
  of_node at (y ∷ out) xs l i o =
      (record { above = omega arith; below = l; to = i.0 }, of_node at out xs l i.1 o)

  of_nodes : (at : ℕ) (ns : List Noded) → at + length ns ≤ suc final → EachIn final ns → AreOrdered at (edges_of at ns)
  of_nodes at [] l i = tt
  of_nodes at (n ∷ ns) l i =
      of_node at n.out (edges_of (suc at) ns) (omega (arith, l)) i.0
      (lower at (suc at) (edges_of (suc at) ns) (omega arith) (of_nodes (suc at) ns (omega (arith, l)) i.1))

  -- ---- one of them, and two

  good_at : (low : ℕ) (xs : List Edge) (k : ℕ) → AreOrdered low xs → k < length xs →
      IsGood low (slice_index_or xs k no_edge)
  good_at low [] k o l = absurd (omega (arith, l))
  good_at low (x ∷ xs) zero o l = o.0
  good_at low (x ∷ xs) (suc k) o l =
      let g = good_at x.from xs k o.1 (omega (arith, l)) in
      record { above = omega (arith, o.0.above, g.above); below = g.below; to = g.to }

  ordered_at : (low : ℕ) (xs : List Edge) (j k : ℕ) → AreOrdered low xs → j ≤ k → k < length xs →
      (slice_index_or xs j no_edge).from ≤ (slice_index_or xs k no_edge).from
  ordered_at low [] j k o l m = absurd (omega (arith, m))
  ordered_at low (x ∷ xs) zero zero o l m = omega arith
  ordered_at low (x ∷ xs) zero (suc k) o l m = (good_at x.from xs k o.1 (omega (arith, m))).above
  ordered_at low (x ∷ xs) (suc j) zero o l m = absurd (omega (arith, l))
  ordered_at low (x ∷ xs) (suc j) (suc k) o l m = ordered_at x.from xs j k o.1 (omega (arith, l)) (omega (arith, m))

-- ---- graphs

module _ (p : Program) (g : Graph) (is : IsGraph p g) where
  many : length g.nodes ≡ length (all_nodes p is.copies)
  many = ap length is.nodes ∙ length-map (all_nodes p is.copies) as_node

  last_node : final_of is.copies ≡ length g.nodes
  last_node = final_is p g is

  one_at_least : 1 ≤ final_of is.copies
  one_at_least = omega arith

  ordered : AreOrdered (final_of is.copies) 1 g.edges
  ordered =
      subst (AreOrdered (final_of is.copies) 1) (sym is.edges)
      (of_nodes (final_of is.copies) 1 (all_nodes p is.copies) (omega (arith, many, last_node))
      (program_in p is.copies).each)

  few_edges : length g.edges ≤ 3 * length g.nodes
  few_edges =
      let few = few_of 1 (all_nodes p is.copies) (program_few p is.copies).each in
      omega (arith, few, many, ap length is.edges)

  module _ (entry : List ℤ) (post : ℕ → List ℤ → List ℤ) where
    pub in_order : HasEdgesInOrder (flow_over g entry post)
    in_order = record {
      has_node = omega (arith, last_node, one_at_least);
      source_node = λ e is_. let x = good e is_ in
          record { first = x.above; last = omega (arith, x.below, last_node) };
      target_node = λ e is_. let x = good e is_ in
          record { first = x.to.first; last = omega (arith, x.to.last, last_node) };
      by_source = λ d e f h l.
          ordered_at (final_of is.copies) 1 g.edges (d - 1) (e - 1) ordered (omega (arith, l))
          (omega (arith, h.first, h.last));
    }
      where
        good : (e : ℕ) → IsEdge (flow_over g entry post) e → IsGood (final_of is.copies) 1 (edge_at g e)
        good e h = good_at (final_of is.copies) 1 g.edges (e - 1) ordered (omega (arith, h.first, h.last))

pub graphs_are_flows : GraphsAreFlows
graphs_are_flows p g is entry post = (in_order p g is entry post, few_edges p g is)
