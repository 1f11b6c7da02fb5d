-- A graph within the limits on its cells and nodes.
use Rattle.std.specs.Prelude.{◌≤◌, length}
use Rattle.cob_graph.specs.declared.graph.Graph.{Graph}
use Rattle.cob_graph.specs.Limits.{most_cells, most_nodes}

pub record IsWithinLimits (g : Graph) : Type 0 where
  pub cells : length g.cells ≤ most_cells
  pub nodes : length g.nodes ≤ most_nodes
