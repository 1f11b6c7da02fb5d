-- Sources of the profile, and why bytes are none.
use Rattle.std.specs.Prelude.{◌⊎◌, ℕ, List}
use Rattle.cob_program.specs.Act.{Program}
use Rattle.cob_graph.specs.declared.graph.Graph.{Graph}
use Rattle.cob_graph.specs.Graphs.{IsGraph}
use Rattle.cob_front.specs.declared.refusal.Refusal.{Refusal}
use Rattle.cob_front.specs.Source.{IsSource, IsCause}
use Rattle.cob_front.specs.Control.{IsControlCause}

-- The bytes are a source of this program, which keeps the rules on PERFORM and GO TO and the limits of its graph.
pub record IsProgramOf (bytes : List ℕ) (p : Program) (g : Graph) : Type 0 where
  pub is_source : IsSource bytes p
  pub is_graph : IsGraph p g
  pub within : (cause : Refusal) → IsControlCause p cause → ⊥

-- the bytes are a source of the profile
pub record IsOfProfile (bytes : List ℕ) : Type 0 where
  pub program : Program
  pub graph : Graph
  pub is_program : IsProgramOf bytes program graph

-- why bytes aren't of the profile: they are no source of a program, or this program has no graph within the limits
abbrev pub IsProfileCause : List ℕ → Refusal → Type 0
IsProfileCause bytes cause =
    IsCause bytes cause ⊎ ((program : Program) × IsSource bytes program × IsControlCause program cause)

-- all bytes are a source of the profile, or there is a cause why not
abbrev pub BytesAreOfProfileOrNot : Type 0
BytesAreOfProfileOrNot = (bytes : List ℕ) → IsOfProfile bytes ⊎ ((cause : Refusal) × IsProfileCause bytes cause)
