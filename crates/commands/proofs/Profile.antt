-- All bytes are a source of the profile, or there is a cause why not.
use Rattle.std.proofs.Common.{◌⊎◌, ⊎_elim, ℕ, List, inl, inr}
use Rattle.cob_program.specs.Act.{Program}
use Rattle.cob_front.specs.declared.refusal.Refusal.{Refusal}
use Rattle.cob_front.specs.Source.{IsSource, IsCause}
use Rattle.cob_front.proofs.SomeAnswer.{some_answer}
use Rattle.source_facts.specs.Control.{HasGraph}
use Rattle.source_facts.proofs.Control.{sources_have_graphs_or_causes}
use Rattle.commands.specs.Profile.{IsOfProfile, IsProfileCause, BytesAreOfProfileOrNot}

of_program : (bytes : List ℕ) (p : Program) → IsSource bytes p → IsOfProfile bytes ⊎ ((cause : Refusal) × IsProfileCause bytes cause)
of_program bytes p is = ⊎_elim
    (λ (has : HasGraph p). inl record {
      program = p;
      graph = has.graph;
      is_program = record { is_source = is; is_graph = has.is_graph; within = has.within };
    })
    (λ out. inr (out.0, inr (p, is, out.1)))
    (sources_have_graphs_or_causes bytes p is)

pub profile_or_not : BytesAreOfProfileOrNot
profile_or_not bytes = ⊎_elim (λ made. of_program bytes made.0 made.1) (λ out. inr (out.0, inl out.1)) (some_answer bytes)
