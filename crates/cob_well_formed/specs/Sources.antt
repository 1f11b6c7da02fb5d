-- Each source's program has what those that run it need of it, and its runs are ways through its graph.
use Rattle.std.specs.Prelude.{ℕ, List}
use Rattle.cob_program.specs.Act.{Program}
use Rattle.cob_graph.specs.declared.graph.Graph.{Graph}
use Rattle.cob_graph.specs.Graphs.{IsGraph}
use Rattle.cob_graph_laws.specs.Ways.{IsSimulated}
use Rattle.cob_interp.specs.Able.{CanBeRun}
use Rattle.cob_front.specs.Source.{IsSource}

-- the program of each source can be run
abbrev pub SourcesCanBeRun : Type 0
SourcesCanBeRun = (bytes : List ℕ) (p : Program) → IsSource bytes p → CanBeRun p

-- each run of a source's program is a way through the program's graph
abbrev pub RunsOfSourcesAreWays : Type 0
RunsOfSourcesAreWays = (bytes : List ℕ) (p : Program) (g : Graph) → IsSource bytes p → IsGraph p g → IsSimulated p g
