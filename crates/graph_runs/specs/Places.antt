-- Edges of a graph by their numbers, and what the statement of a node does.
use Rattle.std.specs.Prelude.{◌≡◌, ◌≤◌, ℕ, ◌-◌, length, slice_index_or, Some}
use Rattle.cob_program.specs.Act.{Act, Program}
use Rattle.cob_runs.specs.Effects.{act_at}
use Rattle.cob_runs.specs.declared.action.Action.TheVariants as action
use Rattle.cob_graph.specs.declared.graph.Edge.{Edge}
use Rattle.cob_graph.specs.declared.graph.Graph.{Graph}
use Rattle.cob_graph.specs.declared.graph.Node.{Node}
use Rattle.cob_graph.specs.Lookup.{node_at, edge}

abbrev pub no_edge : Edge
no_edge = edge 0 action.Skip 0

-- the edge with a number, which count from one on
abbrev pub edge_at : Graph → ℕ → Edge
edge_at g e = slice_index_or g.edges (e - 1) no_edge

-- the edge with the number leaves the node
pub record Leaves (g : Graph) (e node : ℕ) : Type 0 where
  pub first : 1 ≤ e
  pub last : e ≤ length g.edges
  pub source : (edge_at g e).from ≡ node

-- the node belongs to the statement
pub record IsOf (g : Graph) (node statement : ℕ) : Type 0 where
  pub at : Node
  pub stands : node_at g.nodes node ≡ Some at
  pub number : at.statement ≡ statement

-- the node's statement, and what it does
pub record DoesAt (p : Program) (g : Graph) (node statement : ℕ) (a : Act) : Type 0 where
  pub of : IsOf g node statement
  pub act : act_at p statement ≡ Some a
