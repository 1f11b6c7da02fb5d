-- Each program of a source has a graph within the limits, or one cause why it has none.
use Rattle.std.specs.Prelude.{◌⊎◌, ℕ, List}
use Rattle.cob_program.specs.Act.{Program}
use Rattle.cob_graph.specs.declared.graph.Graph.{Graph}
use Rattle.cob_graph.specs.Graphs.{IsGraph}
use Rattle.cob_graph_build.specs.MainCopies.{HasTargets}
use Rattle.cob_front.specs.declared.refusal.Refusal.{Refusal}
use Rattle.cob_front.specs.Source.{IsSource}
use Rattle.cob_front.specs.Control.{IsControlCause}

-- each GO TO of a source's program goes to a paragraph of it
abbrev pub SourcesHaveTargets : Type 0
SourcesHaveTargets = (bytes : List ℕ) (p : Program) → IsSource bytes p → HasTargets p

-- a graph, and no cause why there should be none
pub record HasGraph (p : Program) : Type 0 where
  pub graph : Graph
  pub is_graph : IsGraph p graph
  pub within : (cause : Refusal) → IsControlCause p cause → ⊥

abbrev pub SourcesHaveGraphsOrCauses : Type 0
SourcesHaveGraphsOrCauses =
    (bytes : List ℕ) (p : Program) → IsSource bytes p → HasGraph p ⊎ ((cause : Refusal) × IsControlCause p cause)
