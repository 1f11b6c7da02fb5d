-- Numbers in items, against the pictures of these.
use Rattle.std.specs.Prelude.{◌≡◌, ◌^◌, ◌<◌, ℕ, Bool, true, false, List, length, Some, ℤ, pos, unsigned_abs, if◌then◌else◌}
use Rattle.dec_num.specs.declared.types.Scaled.{Scaled}
use Rattle.cob_tree.specs.declared.form.Form.{Form}
use Rattle.cob_tree.specs.declared.form.Form.TheVariants as form
use Rattle.cob_tree.specs.declared.form.Usage.{Usage}
use Rattle.cob_data.specs.declared.layout.Layout.{Layout}
use Rattle.num_bytes.specs.Reading.{is_own, contents_value}
use Rattle.cob_store.specs.WellFormed.{IsWellFormedForm, HasWellFormedItems}
use Rattle.cob_runs.specs.Contents.{form_at, times_at, occurrence_number, bytes_of}
use Rattle.cob_runs.specs.Moves.{takes_number}
use Rattle.graph_runs.specs.Sources.{SeparateItemsHaveSigns}

-- the numbers that an item of the form has: those of its digits, not below 0 where it has no sign
abbrev pub IsOwn : Form → ℤ → Type 0
IsOwn (form.Number digits scale signed usage) z = is_own digits signed z ≡ true
IsOwn (form.Text n) z = is_own n false z ≡ true
IsOwn _ z = ⊥

-- A number that is read of an occurrence is one of these, whatever storage holds.
abbrev pub NumbersAreOwn : Type 0
NumbersAreOwn =
    (l : Layout) (bytes : List ℕ) (place n : ℕ) (v : Scaled) → HasWellFormedItems l → SeparateItemsHaveSigns l →
    length bytes ≡ l.storage → n < times_at l place → occurrence_number l bytes place n ≡ Some v →
    IsOwn (form_at l place) v.units

-- The bytes of a number are as many as the item's.
abbrev pub NumbersFillItems : Type 0
NumbersFillItems =
    (f : Form) (bytes : ℕ) (units : ℤ) → IsWellFormedForm f bytes → takes_number f ≡ true → length (bytes_of f units) ≡ bytes

-- The bytes of a number are read as this number, or as its absolute value where the item has no sign.
abbrev pub NumbersReadBack : Type 0
NumbersReadBack =
    (digits scale : ℕ) (signed : Bool) (usage : Usage) (bytes : ℕ) (z : ℤ) →
    IsWellFormedForm (form.Number digits scale signed usage) bytes → unsigned_abs z < 10 ^ digits →
    contents_value (form.Number digits scale signed usage) (bytes_of (form.Number digits scale signed usage) z)
    ≡ Some (if signed then z else pos (unsigned_abs z))
