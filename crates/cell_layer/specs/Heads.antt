-- Nodes that an edge goes back to.
use Rattle.std.specs.Prelude.{ℕ, ◌==◌, ◌&&◌, nat_le, Bool, List, map}
use Rattle.std.specs.List.{list_any, range_with_len}
use Rattle.cob_graph.specs.declared.graph.Edge.{Edge}

-- the edge goes to the node, from itself or from a later one
abbrev pub goes_back : ℕ → Edge → Bool
goes_back node x = (x.to == node) && nat_le x.to x.from

abbrev pub is_head : List Edge → ℕ → Bool
is_head edges node = list_any (goes_back node) edges

-- for each of so many nodes, which are numbered from one, whether an edge goes back to it
abbrev pub heads_of : ℕ → List Edge → List Bool
heads_of nodes edges = map (is_head edges) (range_with_len 1 nodes)
