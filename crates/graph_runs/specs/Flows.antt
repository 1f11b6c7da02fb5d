-- The graph of a program as a system over which a layer's rows flow.
use Rattle.std.specs.Prelude.{◌≤◌, ◌*◌, ℕ, List, ℤ, length}
use Rattle.cob_program.specs.Act.{Program}
use Rattle.cob_graph.specs.declared.graph.Graph.{Graph}
use Rattle.cob_graph.specs.Graphs.{IsGraph}
use Rattle.dom_laws.specs.Flow.{Flow, IsNode, IsEdge}
use Rattle.graph_runs.specs.Places.{edge_at}

-- a graph with the row of node 1 and what each edge makes of a row
abbrev pub flow_over : Graph → List ℤ → (ℕ → List ℤ → List ℤ) → Flow
flow_over g entry post = record {
  nodes = length g.nodes;
  edges = length g.edges;
  source = λ e. (edge_at g e).from;
  target = λ e. (edge_at g e).to;
  entry = entry;
  post = post;
}

-- what a flow asks of nodes and edges alone
pub record HasEdgesInOrder (f : Flow) : Type 0 where
  pub has_node : 1 ≤ f.nodes
  pub source_node : (e : ℕ) → IsEdge f e → IsNode f (f.source e)
  pub target_node : (e : ℕ) → IsEdge f e → IsNode f (f.target e)
  pub by_source : (d e : ℕ) → IsEdge f d → IsEdge f e → d ≤ e → f.source d ≤ f.source e

-- Each edge of a program's graph leads from a node to a node, and edges stand in the order of their sources. No node has
-- more than three.
abbrev pub GraphsAreFlows : Type 0
GraphsAreFlows = (p : Program) (g : Graph) → IsGraph p g → (entry : List ℤ) (post : ℕ → List ℤ → List ℤ) →
    HasEdgesInOrder (flow_over g entry post) × (length g.edges ≤ 3 * length g.nodes)
