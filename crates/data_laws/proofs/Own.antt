-- The number that an item holds is one of those that its picture can hold, and what it has room for reads back.
use Rattle.std.proofs.Common.{◌≡◌, ◌==◌, ℕ, ◌+◌, ◌^◌, ◌%◌, ◌<◌, ◌≤◌, Bool, true, false, ◌&&◌, ◌||◌, if◌then◌else◌, List, length, refl, ap, ◌∙◌, subst, arith, Option, Some, None, ℤ, pos, negsuc, unsigned_abs}
use Rattle.std.specs.Option.{option_map}
use Rattle.std.proofs.lemmas.Bool.{lt-ltb}
use Rattle.std.proofs.lemmas.Option.{cond_some, same_Some}
use Rattle.dec_num.proofs.Powers.{ten_positive}
use Rattle.cob_tree.specs.declared.form.Form.{Form}
use Rattle.cob_tree.specs.declared.form.Form.TheVariants.{Group, Text, Number, Edited}
use Rattle.cob_tree.specs.declared.form.Usage.{Usage}
use Rattle.cob_tree.specs.declared.form.Usage.TheVariants.{Display, Leading, Trailing, Binary, Packed}
use Rattle.num_bytes.specs.Digits.{digits_in, number_of, signed_number}
use Rattle.num_bytes.specs.Reading.{is_own, last, packed_digits, twos_complement, binary_width, number_value, contents_value}
use Rattle.num_bytes.proofs.RoundTrip.{number_back}
use Rattle.cob_program.specs.Bounds.{form_bound}
use Rattle.cob_store.specs.WellFormed.{IsWellFormedForm}
use Rattle.cob_store.proofs.ReadBound.{read_within}
use Rattle.cob_runs.specs.Contents.{bytes_of, scale_of, scaled_by}
use Rattle.graph_runs.specs.Sources.{HasSignIfSeparate}
use Rattle.data_laws.specs.Items.{IsOwn, NumbersReadBack}

-- ---- not below zero

abbrev IsWhole : ℤ → Type 0
IsWhole z = z ≡ pos (unsigned_abs z)

whole_from : (n : ℕ) (z : ℤ) → pos n ≡ z → IsWhole z
whole_from n z same = subst IsWhole same refl

whole_digits : (o : Option (List ℕ)) (z : ℤ) → option_map (λ ds. pos (number_of ds)) o ≡ Some z → IsWhole z
whole_digits None z is = absurd (cc)
whole_digits (Some ds) z is = whole_from (number_of ds) z (same_Some _ _ is)

whole_own : (digits : ℕ) (z : ℤ) → is_own digits false z ≡ true → IsWhole z
whole_own digits (pos n) own = refl
whole_own digits (negsuc n) own = absurd (cc)

whole_packed : (tests plus minus : Bool) (k : ℕ) (z : ℤ) →
    (if tests then option_map (λ m. signed_number m k) (if plus then Some false else (if false && minus then Some true else None)) else None) ≡ Some z → IsWhole z
whole_packed false plus minus k z is = absurd (cc)
whole_packed true false minus k z is = absurd (cc)
whole_packed true true minus k z is = whole_from k z (same_Some _ _ is)

-- an item without a sign, whose sign doesn't stand alone
whole_number : (digits scale : ℕ) (usage : Usage) (bs : List ℕ) (z : ℤ) → HasSignIfSeparate (Number digits scale false usage) →
    number_value digits false usage bs ≡ Some z → IsWhole z
whole_number digits scale Display bs z sign is = whole_digits (digits_in bs) z is
whole_number digits scale Leading bs z sign is = absurd (cc)
whole_number digits scale Trailing bs z sign is = absurd (cc)
whole_number digits scale Binary bs z sign is =
    let t = twos_complement (binary_width digits) bs in
    let parts = cond_some (is_own digits false t) t z is in
    subst IsWhole parts.1 (whole_own digits t parts.0)
whole_number digits scale Packed bs z sign is = whole_packed _ _ (last bs % 16 == 11 || last bs % 16 == 13) (number_of (packed_digits bs)) z is

-- ---- own numbers

own_signed : (digits : ℕ) (z : ℤ) → unsigned_abs z < 10 ^ digits → is_own digits true z ≡ true
own_signed digits (pos n) small = lt-ltb n (10 ^ digits) small
own_signed digits (negsuc n) small = lt-ltb (n + 1) (10 ^ digits) (omega (arith, small))

own_unsigned : (digits : ℕ) (z : ℤ) → unsigned_abs z < 10 ^ digits → IsWhole z → is_own digits false z ≡ true
own_unsigned digits z small whole = ap (is_own digits false) whole ∙ lt-ltb (unsigned_abs z) (10 ^ digits) small

read_most : (f : Form) (bs : List ℕ) (z : ℤ) → IsWellFormedForm f (length bs) → contents_value f bs ≡ Some z → unsigned_abs z ≤ (form_bound f).most
read_most f bs z sound is = (read_within f bs z (scaled_by (scale_of f) z) sound is refl).most

pub read_is_own : (f : Form) (bs : List ℕ) (z : ℤ) → IsWellFormedForm f (length bs) → HasSignIfSeparate f → contents_value f bs ≡ Some z → IsOwn f z
read_is_own Group bs z sound sign is = absurd (cc)
read_is_own (Text n) bs z sound sign is =
    own_unsigned n z (omega (arith, read_most (Text n) bs z sound is, ten_positive n)) (whole_digits (digits_in bs) z is)
read_is_own (Number digits scale true usage) bs z sound sign is =
    own_signed digits z (omega (arith, read_most (Number digits scale true usage) bs z sound is, ten_positive digits))
read_is_own (Number digits scale false usage) bs z sound sign is =
    own_unsigned digits z (omega (arith, read_most (Number digits scale false usage) bs z sound is, ten_positive digits))
    (whole_number digits scale usage bs z sign is)
read_is_own (Edited picture digits scale) bs z sound sign is = absurd (cc)

-- ---- what is stored reads back

pub stored_back : (digits scale : ℕ) (signed : Bool) (usage : Usage) (z : ℤ) → 1 ≤ digits → digits ≤ 18 → unsigned_abs z < 10 ^ digits →
    contents_value (Number digits scale signed usage) (bytes_of (Number digits scale signed usage) z) ≡ Some (if signed then z else pos (unsigned_abs z))
stored_back digits scale true usage z some high small = number_back digits true usage z some high (own_signed digits z small)
stored_back digits scale false usage z some high small =
    number_back digits false usage (pos (unsigned_abs z)) some high (lt-ltb (unsigned_abs z) (10 ^ digits) small)

pub numbers_read_back : NumbersReadBack
numbers_read_back digits scale signed usage bytes z sound small =
    stored_back digits scale signed usage z sound.number.some_digits sound.number.at_most_18 small
