-- What a layer of cells holds beside its program and its graph.
use Rattle.std.specs.Prelude.{◌≡◌}
use Rattle.cob_program.specs.ActView.{plain_program}
use Rattle.cob_program.specs.Act.{Program}
use Rattle.cob_graph.specs.declared.graph.Graph.{Graph}
use Rattle.graph_runs.specs.Sources.{IsSourceGraph}
use Rattle.cell_layer.specs.declared.layer.works.EdgeWorks.{EdgeWorks}

-- the works of a source's graph
pub record IsHeld (p : Program) (g : Graph) (works : EdgeWorks) : Type 0 where
  pub source : IsSourceGraph p g
  pub program : plain_program works.program.now ≡ p
  pub graph : works.graph.now ≡ g
