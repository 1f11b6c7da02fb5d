-- Nodes and edges of a graph by their numbers.
use Rattle.std.specs.Prelude.{ℕ, zero, suc, List, length, slice_get, Option, None}
use Rattle.cob_runs.specs.declared.action.Action.{Action}
use Rattle.cob_graph.specs.declared.graph.Edge.{Edge}
use Rattle.cob_graph.specs.declared.graph.Graph.{Graph}

-- the node with a number, which count from one on
abbrev pub node_at : {A : Type 0} → List A → ℕ → Option A
node_at ns zero = None
node_at ns (suc n) = slice_get ns n

abbrev pub edge : ℕ → Action → ℕ → Edge
edge from action to = record { from = from; to = to; action = action }

-- the number of the last node, which is the final one
abbrev pub final_in : Graph → ℕ
final_in g = length g.nodes
