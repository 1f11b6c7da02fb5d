-- How numbers are written into numeric items.
use Rattle.std.specs.Prelude.{◌==◌, ℕ, ◌+◌, ◌-◌, ◌*◌, ◌/◌, ◌%◌, Bool, true, false, if◌then◌else◌, IsTrue, List, [], ◌∷◌, ◌++◌, ℤ, pos, negsuc, unsigned_abs}
use Rattle.std.specs.Int.{to_be_bytes, cast_unsigned}
use Rattle.cob_tree.specs.declared.form.Form.{Form}
use Rattle.cob_tree.specs.declared.form.Form.TheVariants.{Group, Text, Number, Edited}
use Rattle.cob_tree.specs.declared.form.Usage.{Usage}
use Rattle.cob_tree.specs.declared.form.Usage.TheVariants.{Display, Leading, Trailing, Binary, Packed}
use Rattle.num_bytes.specs.Digits.{last_digits, digit_text}
use Rattle.num_bytes.specs.Reading.{binary_width, HasNumber, is_own}

-- zero counts as positive
abbrev pub is_minus : ℤ → Bool
is_minus (pos n) = false
is_minus (negsuc n) = true

-- the last digit with the sign: { and A to I, or } and J to R
abbrev pub overpunched_digit : Bool → ℕ → ℕ
overpunched_digit false d = if d == 0 then 123 else 64 + d
overpunched_digit true d = if d == 0 then 125 else 73 + d

-- + or -
abbrev pub sign_byte : Bool → ℕ
sign_byte minus = if minus then 45 else 43

abbrev pub display_bytes : ℕ → Bool → ℤ → List ℕ
display_bytes digits true z =
    let size = unsigned_abs z in digit_text (last_digits (digits - 1) (size / 10)) ++ overpunched_digit (is_minus z) (size % 10) ∷ []
display_bytes digits false z = digit_text (last_digits digits (unsigned_abs z))

-- two half bytes a byte
abbrev pub packed : List ℕ → List ℕ
packed [] = []
packed (h ∷ []) = 16 * h ∷ []
packed (h ∷ l ∷ hs) = (16 * h + l) ∷ packed hs

-- the last half byte: C for plus, D for minus, F where the item has no sign
abbrev pub sign_half : Bool → Bool → ℕ
sign_half false minus = 15
sign_half true minus = if minus then 13 else 12

-- the bytes of a number in a numeric item
abbrev pub number_bytes : ℕ → Bool → Usage → ℤ → List ℕ
number_bytes digits signed Display z = display_bytes digits signed z
number_bytes digits signed Leading z = sign_byte (is_minus z) ∷ digit_text (last_digits digits (unsigned_abs z))
number_bytes digits signed Trailing z = digit_text (last_digits digits (unsigned_abs z)) ++ sign_byte (is_minus z) ∷ []
number_bytes digits signed Binary z = let w = binary_width digits in to_be_bytes w (cast_unsigned w z)
number_bytes digits signed Packed z =
    packed (last_digits (2 * (digits / 2) + 1) (unsigned_abs z) ++ sign_half signed (is_minus z) ∷ [])

-- the bytes of a number in an item; groups, alphanumeric and edited items take none
abbrev pub contents_bytes : Form → ℤ → List ℕ
contents_bytes Group z = []
contents_bytes (Text length) z = []
contents_bytes (Number digits scale signed usage) z = number_bytes digits signed usage z
contents_bytes (Edited picture digits scale) z = []

-- a numeric item whose digits and sign hold the number
abbrev pub CanHold : Form → ℤ → ℕ → Type 0
CanHold Group z bytes = ⊥
CanHold (Text length) z bytes = ⊥
CanHold (Number digits scale signed usage) z bytes = HasNumber digits usage bytes × IsTrue (is_own digits signed z)
CanHold (Edited picture digits scale) z bytes = ⊥
