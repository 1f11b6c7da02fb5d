-- What contents read as lies within what the digits of their form can write.
use Rattle.std.proofs.Common.{◌≡◌, ◌==◌, ℕ, ◌+◌, ◌-◌, ◌*◌, ◌^◌, ◌%◌, ◌<◌, ◌≤◌, zero, suc, nat_lt, Bool, true, false, ◌&&◌, if◌then◌else◌, List, [], ◌∷◌, ◌++◌, map, length, take, drop, refl, ap, ◌∙◌, sym, arith, Option, Some, None, ℤ, pos, negsuc, unsigned_abs}
use Rattle.std.proofs.lemmas.Bool.{and_parts, eqb-true, ltb-true}
use Rattle.std.proofs.lemmas.Bool.Decides.{nat_tests}
use Rattle.std.proofs.lemmas.Option.{cond_some, same_Some}
use Rattle.std.proofs.lemmas.List.{take-append-drop, length-take, length-drop}
use Rattle.std.proofs.lemmas.Grind.{pow_more}
use Rattle.std.proofs.lemmas.Int.Digits.{number_lt, number_push}
use Rattle.std.specs.List.{list_all}
use Rattle.std.specs.Option.{option_map}
use Rattle.std.specs.Char.{is_ascii_digit}
use Rattle.std.specs.Int.Digits.{number_from_digits_after, AllBelowBase}
use Rattle.dec_num.proofs.Powers.{ten_monotone}
use Rattle.cob_tree.specs.declared.form.Form.{Form}
use Rattle.cob_tree.specs.declared.form.Form.TheVariants.{Group, Text, Number, Edited}
use Rattle.cob_tree.specs.declared.form.Usage.{Usage}
use Rattle.cob_tree.specs.declared.form.Usage.TheVariants.{Display, Leading, Trailing, Binary, Packed}
use Rattle.num_bytes.specs.Digits.{digits_in, number_of, signed_number}
use Rattle.num_bytes.specs.Reading.{both, front, last, signed_digit, is_own, twos_complement, binary_width, packed_sign, packed_digits, packed_value, number_value, contents_value, HasNumber}
use Rattle.dec_num.specs.declared.types.Scaled.{Scaled}
use Rattle.cob_program.specs.Bounds.{Bound, IsWithin, form_bound}
use Rattle.cob_runs.specs.Contents.{scale_of, scaled_by}
use Rattle.cob_store.specs.WellFormed.{IsWellFormedForm}

-- ---- numbers with a sign

signed_size : (minus : Bool) (n : ℕ) → unsigned_abs (signed_number minus n) ≡ n
signed_size false n = refl
signed_size true zero = refl
signed_size true (suc n) = refl

size_of : (z w : ℤ) (n m : ℕ) → z ≡ w → unsigned_abs z ≡ n → n < m → unsigned_abs w < m
size_of z w n m same size below = omega (arith, ap unsigned_abs same, size)

-- ---- digits

digits_small : (bs : List ℕ) → list_all is_ascii_digit bs ≡ true → AllBelowBase 10 (map (λ b. b - 48) bs)
digits_small [] all = tt
digits_small (b ∷ bs) all =
    let parts = and_parts (is_ascii_digit b) (list_all is_ascii_digit bs) all in
    (grind (arith, nat_tests, parts.0), digits_small bs parts.1)

length_map : (bs : List ℕ) → length (map (λ b. b - 48) bs) ≡ length bs
length_map [] = refl
length_map (b ∷ bs) = ap suc (length_map bs)

digits_below : (bs ds : List ℕ) (n : ℕ) → digits_in bs ≡ Some ds → length bs ≤ n → number_of ds < 10 ^ n
digits_below bs ds n read short =
    let parts = cond_some (list_all is_ascii_digit bs) (map (λ b. b - 48) bs) ds read in
    let below = number_lt 10 (map (λ b. b - 48) bs) (digits_small bs parts.0) in
    omega (arith, below, ap number_of parts.1, length_map bs, ap (λ k. 10 ^ k) (length_map bs), ten_monotone (length bs) n short)

-- ---- each way to keep a number

whole_below : (o : Option (List ℕ)) (n : ℕ) (z : ℤ) → ((ds : List ℕ) → o ≡ Some ds → number_of ds < 10 ^ n) →
    option_map (λ ds. pos (number_of ds)) o ≡ Some z → unsigned_abs z < 10 ^ n
whole_below None n z below is = absurd (cc)
whole_below (Some ds) n z below is = size_of (pos (number_of ds)) z (number_of ds) (10 ^ n) (same_Some _ _ is) refl (below ds refl)

separate_below : (sign : Option Bool) (o : Option (List ℕ)) (n : ℕ) (z : ℤ) → ((ds : List ℕ) → o ≡ Some ds → number_of ds < 10 ^ n) →
    both (λ minus ds. signed_number minus (number_of ds)) sign o ≡ Some z → unsigned_abs z < 10 ^ n
separate_below None o n z below is = absurd (cc)
separate_below (Some minus) None n z below is = absurd (cc)
separate_below (Some minus) (Some ds) n z below is =
    size_of (signed_number minus (number_of ds)) z (number_of ds) (10 ^ n) (same_Some _ _ is) (signed_size minus _) (below ds refl)

last_small : (b : ℕ) (d : Bool × ℕ) → signed_digit b ≡ Some d → d.1 < 10
last_small b d is = grind (arith, nat_tests)

punched_below : (o : Option (List ℕ)) (end : Option (Bool × ℕ)) (n : ℕ) (z : ℤ) → ((ds : List ℕ) → o ≡ Some ds → number_of ds < 10 ^ n) →
    ((d : Bool × ℕ) → end ≡ Some d → d.1 < 10) →
    both (λ ds d. signed_number d.0 (number_of (ds ++ d.1 ∷ []))) o end ≡ Some z → unsigned_abs z < 10 ^ (n + 1)
punched_below None end n z below small is = absurd (cc)
punched_below (Some ds) None n z below small is = absurd (cc)
punched_below (Some ds) (Some d) n z below small is =
    size_of (signed_number d.0 (number_of (ds ++ d.1 ∷ []))) z (number_of (ds ++ d.1 ∷ [])) (10 ^ (n + 1)) (same_Some _ _ is) (signed_size d.0 _)
    (omega (arith, number_push 10 ds d.1, below ds refl, small d refl, pow_more 10 n))

own_below : (digits : ℕ) (signed : Bool) (z : ℤ) → is_own digits signed z ≡ true → unsigned_abs z < 10 ^ digits
own_below digits signed (pos n) own = ltb-true n (10 ^ digits) own
own_below digits signed (negsuc n) own = omega (arith, ltb-true (n + 1) (10 ^ digits) (and_parts signed _ own).1)

-- ---- packed digits

zeros_add_nothing : (hs rest : List ℕ) → list_all (λ h. h == 0) hs ≡ true → number_of (hs ++ rest) ≡ number_of rest
zeros_add_nothing [] rest all = refl
zeros_add_nothing (h ∷ hs) rest all =
    let parts = and_parts (h == 0) (list_all (λ x. x == 0) hs) all in
    let zero_first : h ≡ 0 = eqb-true h 0 parts.0 in
    ap (λ k. number_from_digits_after 10 (0 * 10 + k) (hs ++ rest)) zero_first ∙ zeros_add_nothing hs rest parts.1

halves_small : (hs : List ℕ) → list_all (λ h. nat_lt h 10) hs ≡ true → AllBelowBase 10 hs
halves_small [] all = tt
halves_small (h ∷ hs) all =
    let parts = and_parts (nat_lt h 10) (list_all (λ x. nat_lt x 10) hs) all in
    (ltb-true h 10 parts.0, halves_small hs parts.1)

small_behind : (n : ℕ) (hs : List ℕ) → AllBelowBase 10 hs → AllBelowBase 10 (drop n hs)
small_behind zero hs all = all
small_behind (suc n) [] all = tt
small_behind (suc n) (h ∷ hs) all = small_behind n hs all.1

halves_below : (digits : ℕ) (hs : List ℕ) → list_all (λ h. h == 0) (take (length hs - digits) hs) ≡ true →
    list_all (λ h. nat_lt h 10) hs ≡ true → number_of hs < 10 ^ digits
halves_below digits hs zeros small =
    let k = length hs - digits in
    let cut : number_of hs ≡ number_of (drop k hs) = ap number_of (sym (take-append-drop k hs)) ∙ zeros_add_nothing (take k hs) (drop k hs) zeros in
    let below = number_lt 10 (drop k hs) (small_behind k hs (halves_small hs small)) in
    omega (arith, cut, below, ten_monotone (length (drop k hs)) digits (omega (arith, length-drop k hs)))

sign_below : (sign : Option Bool) (k n : ℕ) (z : ℤ) → k < n → option_map (λ minus. signed_number minus k) sign ≡ Some z → unsigned_abs z < n
sign_below None k n z below is = absurd (cc)
sign_below (Some minus) k n z below is = size_of (signed_number minus k) z k n (same_Some _ _ is) (signed_size minus k) below

packed_when : (b : Bool) (o : Option ℤ) (z : ℤ) (n : ℕ) → (if b then o else None) ≡ Some z → (b ≡ true → o ≡ Some z → unsigned_abs z < n) → unsigned_abs z < n
packed_when false o z n is below = absurd (cc)
packed_when true o z n is below = below refl is

packed_below : (digits : ℕ) (signed : Bool) (bs : List ℕ) (z : ℤ) → packed_value digits signed bs ≡ Some z → unsigned_abs z < 10 ^ digits
packed_below digits signed bs z is =
    let hs = packed_digits bs in
    let zeros = list_all (λ h. h == 0) (take (length hs - digits) hs) in
    let small = list_all (λ h. nat_lt h 10) hs in
    packed_when (zeros && small) _ z (10 ^ digits) is
    (λ tests sign. let parts = and_parts zeros small tests in
    sign_below (packed_sign signed (last bs % 16)) (number_of hs) (10 ^ digits) z (halves_below digits hs parts.0 parts.1) sign)

-- ---- all forms

display_below : (digits : ℕ) (signed : Bool) (bs : List ℕ) (z : ℤ) → 1 ≤ digits → length bs ≡ digits →
    number_value digits signed Display bs ≡ Some z → unsigned_abs z < 10 ^ digits
display_below digits false bs z some whole is = whole_below (digits_in bs) digits z (λ ds read. digits_below bs ds digits read (omega arith)) is
display_below digits true bs z some whole is =
    let front_short : length (front bs) ≤ digits - 1 = omega (arith, length-take (length bs - 1) bs) in
    let below = punched_below (digits_in (front bs)) (signed_digit (last bs)) (digits - 1) z
    (λ ds read. digits_below (front bs) ds (digits - 1) read front_short) (λ d e. last_small (last bs) d e) is in
    let count : digits - 1 + 1 ≡ digits = omega arith in
    omega (arith, below, ap (λ k. 10 ^ k) count)

number_below : (digits : ℕ) (signed : Bool) (usage : Usage) (bs : List ℕ) (z : ℤ) → HasNumber digits usage (length bs) →
    number_value digits signed usage bs ≡ Some z → unsigned_abs z < 10 ^ digits
number_below digits signed Display bs z has is = display_below digits signed bs z has.some_digits has.whole is
number_below digits signed Leading bs z has is =
    separate_below _ (digits_in (drop 1 bs)) digits z
    (λ ds read. digits_below (drop 1 bs) ds digits read (omega (arith, has.whole, length-drop 1 bs))) is
number_below digits signed Trailing bs z has is =
    separate_below _ (digits_in (front bs)) digits z
    (λ ds read. digits_below (front bs) ds digits read (omega (arith, has.whole, length-take (length bs - 1) bs))) is
number_below digits signed Binary bs z has is =
    let t = twos_complement (binary_width digits) bs in
    let parts = cond_some (is_own digits signed t) t z is in
    omega (arith, own_below digits signed t parts.0, ap unsigned_abs parts.1)
number_below digits signed Packed bs z has is = packed_below digits signed bs z is

read_below : (f : Form) (bs : List ℕ) (z : ℤ) → IsWellFormedForm f (length bs) → contents_value f bs ≡ Some z → unsigned_abs z ≤ (form_bound f).most
read_below Group bs z sound is = absurd (cc)
read_below (Text n) bs z sound is = omega (arith, whole_below (digits_in bs) n z (λ ds read. digits_below bs ds n read (omega arith)) is)
read_below (Number digits scale signed usage) bs z sound is = omega (arith, number_below digits signed usage bs z sound.number is)
read_below (Edited picture digits scale) bs z sound is = absurd (cc)

bound_scale : (f : Form) (bs : List ℕ) (z : ℤ) → contents_value f bs ≡ Some z → scale_of f ≡ (form_bound f).scale
bound_scale Group bs z is = refl
bound_scale (Text n) bs z is = refl
bound_scale (Number digits scale signed usage) bs z is = refl
bound_scale (Edited picture digits scale) bs z is = refl

pub read_within : (f : Form) (bs : List ℕ) (z : ℤ) (v : Scaled) → IsWellFormedForm f (length bs) → contents_value f bs ≡ Some z →
    v ≡ scaled_by (scale_of f) z → IsWithin v (form_bound f)
read_within f bs z v sound is same = record {
  most = omega (arith, read_below f bs z sound is, ap (λ (w : Scaled). unsigned_abs w.units) same);
  scale = ap (λ (w : Scaled). w.scale) same ∙ bound_scale f bs z is;
}

pub within_same : (v w : Scaled) (b : Bound) → IsWithin w b → v ≡ w → IsWithin v b
within_same v w b within same = record {
  most = omega (arith, within.most, ap (λ (x : Scaled). unsigned_abs x.units) same);
  scale = ap (λ (x : Scaled). x.scale) same ∙ within.scale;
}
