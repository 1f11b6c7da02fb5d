-- A statement that is sought by its number, one place after the other.
use Rattle.std.proofs.Common.{◌≡◌, ◌<◌, ◌+◌, ℕ, List, Some, inl, inr, ap, sym, subst, ◌∙◌, arith}
use Rattle.std.specs.Prelude.{slice_get, length}
use Rattle.std.proofs.lemmas.Bool.{cases_eq}
use Rattle.std.proofs.lemmas.Option.{same_Some, slice_get_within}
use Rattle.cob_plan.specs.declared.statement.Statement.{Statement}
use Rattle.cob_plan.specs.Stepping.{IsListed}

-- none of those before a place has the number
abbrev pub NoneSooner : List Statement → ℕ → ℕ → Type 0
NoneSooner statements number place =
    (i : ℕ) (s : Statement) → i < place → slice_get statements i ≡ Some s → s.number ≡ number → ⊥

pub none_at : (statements : List Statement) (number place : ℕ) (x : Statement) → slice_get statements place ≡ Some x →
    (x.number ≡ number → ⊥) → NoneSooner statements number place → NoneSooner statements number (place + 1)
none_at statements number place x stands other sooner i s below at its = elim (cases_eq i place) [
  | inl e ↦
      let here = subst (λ (n : ℕ). slice_get statements n ≡ Some s) e at in
      other (ap (λ (y : Statement). y.number) (same_Some x s (sym stands ∙ here)) ∙ its)
  | inr ne ↦ sooner i s (omega (arith, below, ne)) at its
]

pub none_listed : (statements : List Statement) (number : ℕ) → NoneSooner statements number (length statements) →
    IsListed statements number → ⊥
none_listed statements number sooner listed =
    sooner listed.place listed.statement (slice_get_within statements listed.place listed.statement listed.stands) listed.stands
    listed.its
