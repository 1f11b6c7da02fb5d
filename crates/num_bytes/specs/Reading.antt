-- What the contents of an item read as.
use Rattle.std.specs.Prelude.{◌≡◌, ◌==◌, ℕ, ◌+◌, ◌-◌, ◌/◌, ◌%◌, ◌^◌, ◌≤◌, nat_lt, nat_le, Bool, true, false, ◌&&◌, ◌||◌, if◌then◌else◌, List, [], ◌∷◌, ◌++◌, length, take, drop, slice_index, Option, Some, None, ℤ, pos, negsuc}
use Rattle.std.specs.List.{list_all}
use Rattle.std.specs.Option.{option_map}
use Rattle.std.specs.Int.{Width, w16, w32, w64, from_be_bytes, cast_signed}
use Rattle.cob_tree.specs.declared.form.Form.{Form}
use Rattle.cob_tree.specs.declared.form.Form.TheVariants.{Group, Text, Number, Edited}
use Rattle.cob_tree.specs.declared.form.Usage.{Usage}
use Rattle.cob_tree.specs.declared.form.Usage.TheVariants.{Display, Leading, Trailing, Binary, Packed}
use Rattle.cob_tree.specs.Forms.{number_length}
use Rattle.num_bytes.specs.Digits.{digits_in, number_of, signed_number}

-- f of both values, if there are both
abbrev pub both : {A B C : Type 0} → (A → B → C) → Option A → Option B → Option C
both f (Some a) (Some b) = Some (f a b)
both f (Some a) None = None
both f None b = None

abbrev pub front : List ℕ → List ℕ
front bs = take (length bs - 1) bs

abbrev pub last : List ℕ → ℕ
last bs = slice_index bs (length bs - 1)

-- DISPLAY without a sign: digits alone
abbrev pub unsigned_value : List ℕ → Option ℤ
unsigned_value bs = option_map (λ ds. pos (number_of ds)) (digits_in bs)

-- Whether the number of a last digit is negative, and the digit: a digit alone; { and A to I for 0 to 9 of a
-- positive number; } and J to R for 0 to 9 of a negative one.
abbrev pub signed_digit : ℕ → Option (Bool × ℕ)
signed_digit b =
    if nat_le 48 b && nat_le b 57 then Some (false, b - 48)
    else (if b == 123 then Some (false, 0)
    else (if nat_le 65 b && nat_le b 73 then Some (false, b - 64)
    else (if b == 125 then Some (true, 0)
    else (if nat_le 74 b && nat_le b 82 then Some (true, b - 73)
    else None))))

-- DISPLAY with the sign in the last digit
abbrev pub overpunched_value : List ℕ → Option ℤ
overpunched_value bs =
    both (λ ds d. signed_number d.0 (number_of (ds ++ d.1 ∷ []))) (digits_in (front bs)) (signed_digit (last bs))

-- whether a separate sign says that the number is negative
abbrev pub separate_sign : ℕ → Option Bool
separate_sign b = if b == 43 then Some false else (if b == 45 then Some true else None)

abbrev pub leading_value : List ℕ → Option ℤ
leading_value bs = both (λ minus ds. signed_number minus (number_of ds)) (separate_sign (slice_index bs 0)) (digits_in (drop 1 bs))

abbrev pub trailing_value : List ℕ → Option ℤ
trailing_value bs = both (λ minus ds. signed_number minus (number_of ds)) (separate_sign (last bs)) (digits_in (front bs))

-- the numbers that an item of so many digits has
abbrev pub is_own : ℕ → Bool → ℤ → Bool
is_own digits signed (pos n) = nat_lt n (10 ^ digits)
is_own digits signed (negsuc n) = signed && nat_lt (n + 1) (10 ^ digits)

-- binary items have 2, 4 or 8 bytes
abbrev pub binary_width : ℕ → Width
binary_width digits = if nat_le digits 4 then w16 else (if nat_le digits 9 then w32 else w64)

-- the first byte has the highest place; two's complement
abbrev pub twos_complement : Width → List ℕ → ℤ
twos_complement w bs = cast_signed w (from_be_bytes w bs)

abbrev pub binary_value : ℕ → Bool → List ℕ → Option ℤ
binary_value digits signed bs =
    let z = twos_complement (binary_width digits) bs in if is_own digits signed z then Some z else None

-- the half bytes, the higher one of each byte first
abbrev pub half_bytes : List ℕ → List ℕ
half_bytes [] = []
half_bytes (b ∷ bs) = b / 16 ∷ b % 16 ∷ half_bytes bs

-- whether the last half byte says that the number is negative: A, C, E and F say no; B and D say yes, but only
-- where the item has a sign
abbrev pub packed_sign : Bool → ℕ → Option Bool
packed_sign signed h =
    if h == 10 || h == 12 || h == 14 || h == 15 then Some false
    else (if signed && (h == 11 || h == 13) then Some true else None)

-- all half bytes but the last one
abbrev pub packed_digits : List ℕ → List ℕ
packed_digits bs = half_bytes (front bs) ++ last bs / 16 ∷ []

-- A packed item of an even number of digits has a half byte to spare before them, which is 0.
abbrev pub packed_value : ℕ → Bool → List ℕ → Option ℤ
packed_value digits signed bs =
    let hs = packed_digits bs in
    if list_all (λ h. h == 0) (take (length hs - digits) hs) && list_all (λ h. nat_lt h 10) hs
    then option_map (λ minus. signed_number minus (number_of hs)) (packed_sign signed (last bs % 16))
    else None

abbrev pub display_value : Bool → List ℕ → Option ℤ
display_value true bs = overpunched_value bs
display_value false bs = unsigned_value bs

-- the number of a numeric item, in units of its scale, if its contents are numeric
abbrev pub number_value : ℕ → Bool → Usage → List ℕ → Option ℤ
number_value digits signed Display bs = display_value signed bs
number_value digits signed Leading bs = leading_value bs
number_value digits signed Trailing bs = trailing_value bs
number_value digits signed Binary bs = binary_value digits signed bs
number_value digits signed Packed bs = packed_value digits signed bs

-- The number of an item's bytes, by its form. An alphanumeric item reads as an unsigned integer; groups and edited items as no number.
abbrev pub contents_value : Form → List ℕ → Option ℤ
contents_value Group bs = None
contents_value (Text length) bs = unsigned_value bs
contents_value (Number digits scale signed usage) bs = number_value digits signed usage bs
contents_value (Edited picture digits scale) bs = None

-- a numeric item of 1 to 18 digits with its bytes
pub record HasNumber (digits : ℕ) (usage : Usage) (bytes : ℕ) : Type 0 where
  pub some_digits : 1 ≤ digits
  pub at_most_18 : digits ≤ 18
  pub whole : bytes ≡ number_length digits usage

-- an item whose contents can be asked for being numeric
abbrev pub CanTest : Form → ℕ → Type 0
CanTest Group bytes = ⊥
CanTest (Text length) bytes = bytes ≡ length
CanTest (Number digits scale signed usage) bytes = HasNumber digits usage bytes
CanTest (Edited picture digits scale) bytes = ⊥

-- an item whose contents can be read as a number
abbrev pub CanRead : Form → ℕ → Type 0
CanRead Group bytes = ⊥
CanRead (Text length) bytes = (bytes ≡ length) × (length ≤ 18)
CanRead (Number digits scale signed usage) bytes = HasNumber digits usage bytes
CanRead (Edited picture digits scale) bytes = ⊥
