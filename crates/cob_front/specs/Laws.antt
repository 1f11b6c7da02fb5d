-- Bytes have one answer: one program, or one cause why they have none.
use Rattle.std.specs.Prelude.{◌≡◌, ◌⊎◌, ℕ, List}
use Rattle.cob_program.specs.Act.{Program}
use Rattle.cob_front.specs.declared.refusal.Refusal.{Refusal}
use Rattle.cob_front.specs.Source.{IsSource, IsCause}

-- at most one
pub record OneAnswer (bytes : List ℕ) : Type 0 where
  pub one_program : (p q : Program) → IsSource bytes p → IsSource bytes q → p ≡ q
  pub one_cause : (d e : Refusal) → IsCause bytes d → IsCause bytes e → d ≡ e
  pub not_both : (p : Program) (e : Refusal) → IsSource bytes p → IsCause bytes e → ⊥

-- at least one
abbrev pub SomeAnswer : List ℕ → Type 0
SomeAnswer bytes = ((p : Program) × IsSource bytes p) ⊎ ((e : Refusal) × IsCause bytes e)
