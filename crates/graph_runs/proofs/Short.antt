-- Contents of a numeric item, cut short too, read as a number of at most 18 digits.
use Rattle.std.proofs.Common.{◌≡◌, ◌≤◌, ◌<◌, inl, inr, ℕ, ◌+◌, ◌-◌, ◌*◌, ◌^◌, ◌/◌, ◌%◌, ◌==◌, ◌&&◌, Bool, true, false, List, [], ◌∷◌, length, take, Option, Some, None, ℤ, pos, negsuc, unsigned_abs, refl, ap, arith}
use Rattle.std.specs.Prelude.{if◌then◌else◌, nat_lt}
use Rattle.std.specs.Option.{option_map}
use Rattle.std.specs.List.{list_all}
use Rattle.std.proofs.lemmas.Bool.{false≢true, and_parts, ltb-true, cases_order}
use Rattle.std.proofs.lemmas.Option.{same_Some, cond_some}
use Rattle.dec_num.proofs.Powers.{ten_monotone, ten_positive}
use Rattle.cob_tree.specs.declared.form.Form.{Form}
use Rattle.cob_tree.specs.declared.form.Form.TheVariants as form
use Rattle.cob_tree.specs.declared.form.Usage.{Usage}
use Rattle.cob_tree.specs.declared.form.Usage.TheVariants.{Display, Leading, Trailing, Binary, Packed}
use Rattle.num_bytes.specs.Digits.{number_of, signed_number}
use Rattle.cob_tree.specs.Forms.{number_length}
use Rattle.num_bytes.specs.Reading.{both, last, is_own, binary_width, twos_complement, packed_sign, packed_digits, packed_value, separate_sign, number_value, contents_value, HasNumber}
use Rattle.num_bytes.proofs.PackedLemmas.{no_spare_odd}
use Rattle.cob_program.specs.Bounds.{form_bound}
use Rattle.cob_runs.specs.Contents.{scale_of, scaled_by}
use Rattle.cob_store.specs.WellFormed.{IsWellFormedForm}
use Rattle.cob_store.proofs.ReadBound.{read_within}

abbrev pub IsShort : ℤ → Type 0
IsShort z = unsigned_abs z < 10 ^ 18

few_digits : (digits n : ℕ) → digits ≤ 18 → n ≤ 10 ^ digits - 1 → n < 10 ^ 18
few_digits digits n l h = omega (arith, h, ten_monotone digits 18 l, ten_positive digits)

-- what so many digits write
pub short_within : (digits : ℕ) (z : ℤ) → digits ≤ 18 → unsigned_abs z ≤ 10 ^ digits - 1 → IsShort z
short_within digits z l h = few_digits digits (unsigned_abs z) l h

read_short : (f : Form) (bs : List ℕ) (z : ℤ) → IsWellFormedForm f (length bs) → contents_value f bs ≡ Some z →
    unsigned_abs z ≤ (form_bound f).most
read_short f bs z whole e = (read_within f bs z (scaled_by (scale_of f) z) whole e refl).most

-- an item of so many digits that keeps them so
whole_short : (digits : ℕ) (signed : Bool) (usage : Usage) (bs : List ℕ) (z : ℤ) → 1 ≤ digits → digits ≤ 18 →
    length bs ≡ number_length digits usage → number_value digits signed usage bs ≡ Some z → IsShort z
whole_short digits signed usage bs z some few e is =
    short_within digits z few
    (read_short (form.Number digits 0 signed usage) bs z
    (record { number = record { some_digits = some; at_most_18 = few; whole = e }; decimals = omega arith }) is)

own_below : (digits : ℕ) (signed : Bool) (z : ℤ) → is_own digits signed z ≡ true → unsigned_abs z < 10 ^ digits
own_below digits signed (pos n) own = ltb-true n (10 ^ digits) own
own_below digits signed (negsuc n) own = omega (arith, ltb-true (n + 1) (10 ^ digits) (and_parts signed _ own).1)

-- a sign and no digit
no_digit : (sign : Option Bool) (z : ℤ) → both (λ minus ds. signed_number minus (number_of ds)) sign (Some []) ≡ Some z →
    IsShort z
no_digit None z e = absurd (cc)
no_digit (Some false) z e = short_within 0 z (omega arith) (omega (arith, ap unsigned_abs (same_Some _ _ e)))
no_digit (Some true) z e = short_within 0 z (omega arith) (omega (arith, ap unsigned_abs (same_Some _ _ e)))

-- ---- packed digits

when : (b : Bool) (o : Option ℤ) (z : ℤ) → (if b then o else None) ≡ Some z → (b ≡ true) × (o ≡ Some z)
when true o z e = (refl, e)
when false o z e = absurd (cc)

by_tests : (b : Bool) (o : Option ℤ) (z : ℤ) → b ≡ true → o ≡ Some z → (if b then o else None) ≡ Some z
by_tests true o z e f = f
by_tests false o z e f = absurd (false≢true e)

both_true : (a b : Bool) → a ≡ true → b ≡ true → (a && b) ≡ true
both_true true b e f = f
both_true false b e f = absurd (false≢true e)

-- fewer bytes read as an item of as many digits as they have half bytes
packed_less : (digits : ℕ) (signed : Bool) (bs : List ℕ) (z : ℤ) → 1 ≤ length bs →
    packed_value digits signed bs ≡ Some z → packed_value (2 * length bs - 1) signed bs ≡ Some z
packed_less digits signed bs z some e =
    let hs = packed_digits bs in
    let sent = option_map (λ minus. signed_number minus (number_of hs)) (packed_sign signed (last bs % 16)) in
    let m = 2 * length bs - 1 in
    let own = list_all (λ h. h == 0) (take (length hs - digits) hs) in
    let zeros = list_all (λ h. h == 0) (take (length hs - m) hs) in
    let small = list_all (λ h. nat_lt h 10) hs in
    let h = when (own && small) sent z e in
    by_tests (zeros && small) sent z
    (both_true zeros small (no_spare_odd m bs (omega (arith, some)) (omega (arith, some))).zeros
    (and_parts own small h.0).1) h.1

no_bytes : (digits : ℕ) (signed : Bool) (z : ℤ) → packed_value digits signed [] ≡ Some z → IsShort z
no_bytes digits true z e =
    let h = when _ (option_map (λ minus. signed_number minus (number_of (packed_digits []))) None) z e in
    let f = h.1 in
    absurd (cc)
no_bytes digits false z e =
    let h = when _ (option_map (λ minus. signed_number minus (number_of (packed_digits []))) None) z e in
    let f = h.1 in
    absurd (cc)

-- ---- each way to keep a number

module _ (digits : ℕ) (few : digits ≤ 18) where
  display_short : (signed : Bool) (bs : List ℕ) (z : ℤ) → length bs ≤ digits →
      number_value digits signed Display bs ≡ Some z → IsShort z
  display_short false bs z l e =
      short_within (length bs) z (omega (arith, few, l)) (read_short (form.Text (length bs)) bs z refl e)
  display_short true [] z l e = absurd (cc)
  display_short true (c ∷ cs) z l e =
      whole_short (length (c ∷ cs)) true Display (c ∷ cs) z (omega arith) (omega (arith, few, l)) refl e

  leading_short : (signed : Bool) (bs : List ℕ) (z : ℤ) → length bs ≤ digits + 1 →
      number_value digits signed Leading bs ≡ Some z → IsShort z
  leading_short signed [] z l e = absurd (cc)
  leading_short signed (c ∷ []) z l e = no_digit (separate_sign c) z e
  leading_short signed (c ∷ d ∷ ds) z l e =
      whole_short (length (d ∷ ds)) signed Leading (c ∷ d ∷ ds) z (omega arith) (omega (arith, few, l)) (omega arith) e

  trailing_short : (signed : Bool) (bs : List ℕ) (z : ℤ) → length bs ≤ digits + 1 →
      number_value digits signed Trailing bs ≡ Some z → IsShort z
  trailing_short signed [] z l e = absurd (cc)
  trailing_short signed (c ∷ []) z l e = no_digit (separate_sign c) z e
  trailing_short signed (c ∷ d ∷ ds) z l e =
      whole_short (length (d ∷ ds)) signed Trailing (c ∷ d ∷ ds) z (omega arith) (omega (arith, few, l)) (omega arith) e

  binary_short : (signed : Bool) (bs : List ℕ) (z : ℤ) → number_value digits signed Binary bs ≡ Some z → IsShort z
  binary_short signed bs z e =
      let t = twos_complement (binary_width digits) bs in
      let parts = cond_some (is_own digits signed t) t z e in
      let below = own_below digits signed t parts.0 in
      omega (arith, below, ap unsigned_abs parts.1, ten_monotone digits 18 few)

  packed_short : (some : 1 ≤ digits) (signed : Bool) (bs : List ℕ) (z : ℤ) → length bs ≤ digits / 2 + 1 →
      number_value digits signed Packed bs ≡ Some z → IsShort z
  packed_short some signed [] z l e = no_bytes digits signed z e
  packed_short some signed (c ∷ cs) z l e = elim (cases_order (length (c ∷ cs)) (digits / 2 + 1)) [
    | inl same ↦ whole_short digits signed Packed (c ∷ cs) z some few same e
    | inr (inl less) ↦
        whole_short (2 * length (c ∷ cs) - 1) signed Packed (c ∷ cs) z (omega arith) (omega (arith, few, less))
        (omega arith) (packed_less digits signed (c ∷ cs) z (omega arith) e)
    | inr (inr more) ↦ absurd (omega (arith, l, more))
  ]

-- no more bytes than the item has
pub number_short : (digits : ℕ) (signed : Bool) (usage : Usage) (bytes : ℕ) (bs : List ℕ) (z : ℤ) →
    HasNumber digits usage bytes → length bs ≤ bytes → number_value digits signed usage bs ≡ Some z → IsShort z
number_short digits signed Display bytes bs z has l e =
    display_short digits has.at_most_18 signed bs z (omega (arith, l, has.whole)) e
number_short digits signed Leading bytes bs z has l e =
    leading_short digits has.at_most_18 signed bs z (omega (arith, l, has.whole)) e
number_short digits signed Trailing bytes bs z has l e =
    trailing_short digits has.at_most_18 signed bs z (omega (arith, l, has.whole)) e
number_short digits signed Binary bytes bs z has l e = binary_short digits has.at_most_18 signed bs z e
number_short digits signed Packed bytes bs z has l e =
    packed_short digits has.at_most_18 has.some_digits signed bs z (omega (arith, l, has.whole)) e
