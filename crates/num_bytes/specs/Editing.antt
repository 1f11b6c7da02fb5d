-- How numbers are shown through an edited picture.
use Rattle.std.specs.Prelude.{◌≡◌, ◌==◌, ℕ, ◌+◌, ◌≤◌, IsTrue, Bool, true, false, ◌&&◌, ◌||◌, not, if◌then◌else◌, List, [], ◌∷◌, length, replicate, slice_index, ℤ, unsigned_abs}
use Rattle.std.specs.List.{list_all}
use Rattle.cob_tree.specs.declared.form.Form.{Form}
use Rattle.cob_tree.specs.declared.form.Form.TheVariants.{Group, Text, Number, Edited}
use Rattle.cob_tree.specs.Pictures.{is_place, place_count}
use Rattle.num_bytes.specs.Digits.{digit_at}
use Rattle.num_bytes.specs.Reading.{is_own}

-- whether zeros are still suppressed after a symbol: a 9 and the point end it, and a Z whose digit isn't 0
abbrev pub still_suppressed : Bool → ℕ → ℕ → Bool
still_suppressed on c digit =
    on && (if c == 57 || c == 46 then false else (if c == 90 then digit == 0 else true))

-- What a symbol shows. `on` says whether zeros are still suppressed after it. The point shows itself, as do the
-- insertions 0, / and the comma where nothing is suppressed; B shows a space.
abbrev pub shown : Bool → ℕ → ℕ → ℕ
shown on c digit =
    if on then 32 else (if is_place c then 48 + digit else (if c == 66 then 32 else c))

-- From left to right. The digit of a place has the weight of the places to its right.
abbrev pub edited : Bool → List ℕ → ℕ → List ℕ
edited on [] v = []
edited on (c ∷ cs) v =
    let digit = digit_at (place_count cs) v in
    let after = still_suppressed on c digit in
    shown after c digit ∷ edited after cs v

-- suppression is on at first where the picture begins with Z
abbrev pub begins_suppressed : List ℕ → Bool
begins_suppressed picture = slice_index picture 0 == 90

-- each place is a Z
abbrev pub all_suppressed : List ℕ → Bool
all_suppressed picture = list_all (λ c. not (c == 57)) picture

-- the bytes of a number in an edited item of this picture
abbrev pub edited_bytes : List ℕ → ℕ → List ℕ
edited_bytes picture v =
    if v == 0 && all_suppressed picture then replicate (length picture) 32
    else edited (begins_suppressed picture) picture v

-- the bytes of a number in an item; only edited items have some
abbrev pub edit_bytes : Form → ℤ → List ℕ
edit_bytes Group z = []
edit_bytes (Text length) z = []
edit_bytes (Number digits scale signed usage) z = []
edit_bytes (Edited picture digits scale) z = edited_bytes picture (unsigned_abs z)

-- an edited item of 1 to 18 digits whose picture has as many places, with its bytes, and a number that they hold
pub record CanEditNumber (picture : List ℕ) (digits : ℕ) (z : ℤ) (bytes : ℕ) : Type 0 where
  pub places : place_count picture ≡ digits
  pub some_digits : 1 ≤ digits
  pub at_most_18 : digits ≤ 18
  pub whole : bytes ≡ length picture
  pub held : IsTrue (is_own digits false z)

abbrev pub CanEdit : Form → ℤ → ℕ → Type 0
CanEdit Group z bytes = ⊥
CanEdit (Text length) z bytes = ⊥
CanEdit (Number digits scale signed usage) z bytes = ⊥
CanEdit (Edited picture digits scale) z bytes = CanEditNumber picture digits z bytes
