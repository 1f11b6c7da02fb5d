use Rattle.std.proofs.Common.{◌≡◌, ◌≤◌}
use Rattle.diff_layer.specs.GraphWorks.{program_of, graph_of, packs_of, matrices_of, cells_at}
use Rattle.pack_laws.specs.Layer.{edge_clears2}
use Rattle.cell_layer.proofs.OwnEdges.{cleared_to}
use Rattle.diff_layer.proofs.layer.nodes.node_cleared.Given as goal

abbrev pub invariant-loop-at : goal.invariant-loop-at
invariant-loop-at l = record {
  from_first : l.first ≤ l.at;
  cleared : l.cleared ≡ cleared_to (graph_of l.edges) l.node
      (λ kind x. edge_clears2 (program_of l.edges) (graph_of l.edges) (packs_of l.edges) kind (cells_at l.rows) (matrices_of l.edges l.rows.matrices.now) x) l.at;
}
