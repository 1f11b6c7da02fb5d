-- Lists of slots, one for each id that was ever given. The slot of a closed id is empty.
use Rattle.std.specs.Prelude.{◌≡◌, ◌≢◌, ℕ, List, None, Option, Some, get_or}

-- what the id stands for, where it is open
abbrev pub slot_at : {X : Type 0} → List (Option X) → ℕ → Option X
slot_at slots id = get_or slots id None

-- the id was not in use, and now stands for this
pub record AddsSlot {X : Type 0} (old new : List (Option X)) (id : ℕ) (opened : X) : Type 0 where
  pub fresh : slot_at old id ≡ None
  pub added : slot_at new id ≡ Some opened
  pub others : (other : ℕ) → other ≢ id → slot_at new other ≡ slot_at old other

-- the id is no longer in use
pub record EndsSlot {X : Type 0} (old new : List (Option X)) (id : ℕ) : Type 0 where
  pub ended : slot_at new id ≡ None
  pub others : (other : ℕ) → other ≢ id → slot_at new other ≡ slot_at old other
