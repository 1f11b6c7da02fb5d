-- What an analysis of cells needs of an edge holds of each source's.
use Rattle.std.specs.Prelude.{◌≡◌, ℕ, Some}
use Rattle.cob_program.specs.Act.{Act, Program}
use Rattle.cob_runs.specs.declared.action.Action.{Action}
use Rattle.cob_runs.specs.Effects.{act_at}
use Rattle.cob_graph.specs.declared.graph.Graph.{Graph}
use Rattle.graph_runs.specs.Sources.{IsSourceGraph}
use Rattle.cell_steps.specs.Agreeing.{IsSoundEdge}

-- Of each action of a statement, whether or not the graph has an edge with it.
abbrev pub EdgesAreSoundOfSources : Type 0
EdgesAreSoundOfSources =
    (p : Program) (g : Graph) → IsSourceGraph p g →
    (statement : ℕ) (a : Act) (x : Action) → act_at p statement ≡ Some a → IsSoundEdge p statement a x
