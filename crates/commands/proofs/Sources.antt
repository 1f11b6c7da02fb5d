-- Bytes end in one way: they aren't of the profile for one cause, or are a source of one program with one graph.
use Rattle.std.proofs.Common.{◌≡◌, ℕ, List, inl, inr, ap, ◌∙◌, subst}
use Rattle.cob_program.specs.Act.{Program}
use Rattle.cob_graph.specs.declared.graph.Graph.{Graph}
use Rattle.cob_graph.specs.Graphs.{IsGraph, OneGraph}
use Rattle.cob_front.specs.declared.refusal.Refusal.{Refusal}
use Rattle.cob_front.specs.Control.{IsControlCause}
use Rattle.cob_front.specs.Laws.{OneAnswer}
use Rattle.commands.specs.Profile.{IsProgramOf, IsOfProfile, IsProfileCause}
use Rattle.commands.proofs.Control.{one_control_cause}

-- what bytes end in
pub data Ending : Type 0 where
  refused : Refusal → Ending
  read : Program → Graph → Ending

abbrev pub EndsIn : List ℕ → Ending → Type 0
EndsIn bytes (refused cause) = IsProfileCause bytes cause
EndsIn bytes (read p g) = IsProgramOf bytes p g

module _ (law : (bytes : List ℕ) → OneAnswer bytes) (bytes : List ℕ) where
  pub one_cause : (d e : Refusal) → IsProfileCause bytes d → IsProfileCause bytes e → d ≡ e
  one_cause d e (inl h) (inl k) = (law bytes).one_cause d e h k
  one_cause d e (inl h) (inr (q, is, k)) = absurd ((law bytes).not_both q d is h)
  one_cause d e (inr (p, is, h)) (inl k) = absurd ((law bytes).not_both p e is k)
  one_cause d e (inr (p, is, h)) (inr (q, also, k)) =
      let same : p ≡ q = (law bytes).one_program p q is also in
      one_control_cause q d e (subst (λ (x : Program). IsControlCause x d) same h) k

  pub no_cause : (p : Program) (g : Graph) (e : Refusal) → IsProgramOf bytes p g → IsProfileCause bytes e → ⊥
  no_cause p g e h (inl k) = (law bytes).not_both p e h.is_source k
  no_cause p g e h (inr (q, is, k)) =
      let same : q ≡ p = (law bytes).one_program q p is h.is_source in
      h.within e (subst (λ (x : Program). IsControlCause x e) same k)

  pub none_in_profile : (e : Refusal) → IsOfProfile bytes → IsProfileCause bytes e → ⊥
  none_in_profile e h k = no_cause h.program h.graph e h.is_program k

  module _ (graphs : OneGraph) where
    one_graph : (p q : Program) (g h : Graph) → p ≡ q → IsGraph p g → IsGraph q h → g ≡ h
    one_graph p q g h same is also = graphs q g h (subst (λ (x : Program). IsGraph x g) same is) also

    one_reading : (p q : Program) (g h : Graph) → IsProgramOf bytes p g → IsProgramOf bytes q h → read p g ≡ read q h
    one_reading p q g h is also =
        let program : p ≡ q = (law bytes).one_program p q is.is_source also.is_source in
        ap (λ (x : Program). read x g) program
        ∙ ap (λ (x : Graph). read q x) (one_graph p q g h program is.is_graph also.is_graph)

    pub one_ending : (a b : Ending) → EndsIn bytes a → EndsIn bytes b → a ≡ b
    one_ending (refused d) (refused e) h k = ap refused (one_cause d e h k)
    one_ending (refused d) (read p g) h k = absurd (no_cause p g d k h)
    one_ending (read p g) (refused e) h k = absurd (no_cause p g e h k)
    one_ending (read p g) (read q h) is also = one_reading p q g h is also
