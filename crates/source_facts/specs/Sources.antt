-- What an analysis needs holds of the program of each source.
use Rattle.std.specs.Prelude.{ℕ, List}
use Rattle.cob_program.specs.Act.{Program}
use Rattle.cob_graph.specs.declared.graph.Graph.{Graph}
use Rattle.cob_graph.specs.Graphs.{IsGraph}
use Rattle.cob_front.specs.Source.{IsSource}
use Rattle.graph_runs.specs.Sources.{IsSourceGraph}

abbrev pub SourcesHaveSourceGraphs : Type 0
SourcesHaveSourceGraphs = (bytes : List ℕ) (p : Program) (g : Graph) → IsSource bytes p → IsGraph p g → IsSourceGraph p g
