use Rattle.std.proofs.Common.{◌≡◌, ◌≤◌}
use Rattle.cob_program.specs.ActView.{plain_program}
use Rattle.interval_domain.specs.Rows.{cells_of}
use Rattle.cell_laws.specs.Layer.{edge_clears}
use Rattle.cell_layer.proofs.OwnEdges.{cleared_to}
use Rattle.cell_layer.proofs.layer.nodes.node_cleared.Given as goal

abbrev pub invariant-loop-at : goal.invariant-loop-at
invariant-loop-at l = record {
  from_first : l.first ≤ l.at;
  cleared : l.cleared ≡ cleared_to l.works.graph.now l.node
      (λ kind x. edge_clears (plain_program l.works.program.now) l.works.graph.now kind (cells_of l.row) x) l.at;
}
