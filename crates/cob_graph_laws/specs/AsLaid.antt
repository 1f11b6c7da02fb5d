-- A graph against the program with its copies written in.
use Rattle.std.specs.Prelude.{◌≡◌, ◌↔◌, ℕ, Contains, Some}
use Rattle.std.specs.Option.{option_map}
use Rattle.cob_program.specs.Act.{Program}
use Rattle.cob_runs.specs.declared.action.Action.{Action}
use Rattle.cob_graph.specs.declared.graph.Graph.{Graph}
use Rattle.cob_graph.specs.Nodes.{Noded}
use Rattle.cob_graph.specs.Lookup.{node_at, edge}
use Rattle.cob_graph.specs.Graphs.{all_nodes, as_node, IsGraph}

-- the nodes of a graph are those laid
abbrev pub NodesAreLaid : Type 0
NodesAreLaid = (p : Program) (g : Graph) (is : IsGraph p g) (n : ℕ) →
    node_at g.nodes n ≡ option_map as_node (node_at (all_nodes p is.copies) n)

-- the edges of a graph are those that leave the nodes laid
abbrev pub EdgesAreLaid : Type 0
EdgesAreLaid = (p : Program) (g : Graph) (is : IsGraph p g) (n : ℕ) (a : Action) (m : ℕ) →
    Contains g.edges (edge n a m) ↔ ((x : Noded) × (node_at (all_nodes p is.copies) n ≡ Some x) × Contains x.out (a, m))
