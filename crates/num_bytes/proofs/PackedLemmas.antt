-- Half bytes.
use Rattle.std.proofs.Common.{◌≡◌, ◌==◌, ℕ, ◌+◌, ◌-◌, ◌*◌, ◌/◌, ◌%◌, ◌^◌, ◌<◌, ◌≤◌, zero, suc, nat_lt, Bool, true, false, ◌&&◌, if◌then◌else◌, List, [], ◌∷◌, ◌++◌, length, get_or, take, drop, set, refl, ap, ◌∙◌, sym, inl, inr, arith, Some, None}
use Rattle.std.proofs.lemmas.Bool.{and_left, and_from, and_parts, ne_eqb, ltb-true, lt-ltb, eqb-true, cases_lt}
use Rattle.std.proofs.lemmas.List.{take_more, append_assoc, length-append, length-take-le, length-set, drop-set}
use Rattle.std.proofs.lemmas.List.Folds.{list_all-append}
use Rattle.std.proofs.lemmas.Int.Digits.{number_push, number_lt}
use Rattle.std.proofs.lemmas.Grind.{pow_more}
use Rattle.std.proofs.Math.Nat.{pow-le-pow_right, div-div-eq-div-mul}
use Rattle.std.proofs.lemmas.Nat.{pow-add}
use Rattle.std.specs.List.{list_all}
use Rattle.std.specs.Option.{option_map}
use Rattle.std.specs.Int.Digits.{AllBelowBase}
use Rattle.dec_num.proofs.Powers.{ten_positive, ten_monotone}
use Rattle.num_bytes.specs.Digits.{number_of, signed_number, last_digits, digit_at}
use Rattle.num_bytes.specs.Reading.{half_bytes, packed_digits, packed_sign, packed_value, front, last}
use Rattle.num_bytes.specs.Writing.{packed}
use Rattle.num_bytes.proofs.DigitLemmas.{rest_more}

pub half_bytes-append : (xs ys : List ℕ) → half_bytes (xs ++ ys) ≡ half_bytes xs ++ half_bytes ys
half_bytes-append [] ys = refl
half_bytes-append (x ∷ xs) ys = ap (λ hs. x / 16 ∷ x % 16 ∷ hs) (half_bytes-append xs ys)

pub half_bytes_more : (bs : List ℕ) (i : ℕ) → i < length bs →
    half_bytes (take (i + 1) bs) ≡ half_bytes (take i bs) ++ get_or bs i 0 / 16 ∷ get_or bs i 0 % 16 ∷ []
half_bytes_more bs i lt = ap half_bytes (take_more bs i 0 lt) ∙ half_bytes-append (take i bs) (get_or bs i 0 ∷ [])

pub number-two : (hs : List ℕ) (h l : ℕ) → number_of (hs ++ h ∷ l ∷ []) ≡ (number_of hs * 10 + h) * 10 + l
number-two hs h l =
    ap number_of (sym (append_assoc hs (h ∷ []) (l ∷ []))) ∙ (number_push 10 (hs ++ h ∷ []) l ∙ ap (λ n. n * 10 + l) (number_push 10 hs h))

pub halves_number : (bs : List ℕ) (i n h l : ℕ) → i < length bs → n ≡ number_of (half_bytes (take i bs)) → h ≡ get_or bs i 0 / 16 → l ≡ get_or bs i 0 % 16 →
    (n * 10 + h) * 10 + l ≡ number_of (half_bytes (take (i + 1) bs))
halves_number bs i n h l lt is high low =
    let more = ap number_of (half_bytes_more bs i lt) ∙ number-two (half_bytes (take i bs)) (get_or bs i 0 / 16) (get_or bs i 0 % 16) in
    ap (λ m. (m * 10 + h) * 10 + l) is ∙ (ap (λ x. (number_of (half_bytes (take i bs)) * 10 + x) * 10 + l) high
    ∙ (ap (λ x. (number_of (half_bytes (take i bs)) * 10 + get_or bs i 0 / 16) * 10 + x) low ∙ sym more))

pub halves_bound : (i n h l : ℕ) → n < 100 ^ i → h < 10 → l < 10 → (n * 10 + h) * 10 + l < 100 ^ (i + 1)
halves_bound i n h l below high low = omega (arith, pow_more 100 i)

pub hundred_monotone : (j k : ℕ) → j ≤ k → 100 ^ j ≤ 100 ^ k
hundred_monotone j k h = pow-le-pow_right (omega arith) h

pub halves_fit : (i n : ℕ) → i < 9 → n < 100 ^ i → n * 100 + 100 ≤ 10 ^ 18
halves_fit i n small below = omega (arith, hundred_monotone i 8 (omega arith))

pub halves_digits : (p : ℕ → Bool) (bs : List ℕ) (i : ℕ) → i < length bs → list_all p (half_bytes (take i bs)) ≡ true →
    p (get_or bs i 0 / 16) ≡ true → p (get_or bs i 0 % 16) ≡ true → list_all p (half_bytes (take (i + 1) bs)) ≡ true
halves_digits p bs i lt before high low =
    let e = ap (list_all p) (half_bytes_more bs i lt) ∙ list_all-append p (half_bytes (take i bs)) (get_or bs i 0 / 16 ∷ get_or bs i 0 % 16 ∷ []) in
    e ∙ grind (arith, before, high, low)

pub halves_bad : (p : ℕ → Bool) (bs : List ℕ) (i : ℕ) → i < length bs → (p (get_or bs i 0 / 16) && p (get_or bs i 0 % 16)) ≡ false →
    list_all p (half_bytes bs) ≡ false
halves_bad p [] i lt bad = absurd (omega arith)
halves_bad p (b ∷ bs) zero lt bad = two_bad (p (b / 16)) (p (b % 16)) (list_all p (half_bytes bs)) bad
  where
    two_bad : (x y z : Bool) → (x && y) ≡ false → (x && (y && z)) ≡ false
    two_bad true y z e = ap (λ v. v && z) e
    two_bad false y z e = refl
halves_bad p (b ∷ bs) (suc i) lt bad = later_bad (p (b / 16)) (p (b % 16)) (list_all p (half_bytes bs)) (halves_bad p bs i (omega arith) bad)
  where
    later_bad : (x y z : Bool) → z ≡ false → (x && (y && z)) ≡ false
    later_bad true true z e = e
    later_bad true false z e = refl
    later_bad false y z e = refl

pub length-half_bytes : (bs : List ℕ) → length (half_bytes bs) ≡ 2 * length bs
length-half_bytes [] = refl
length-half_bytes (b ∷ bs) = omega (arith, length-half_bytes bs)

length-front : (bs : List ℕ) → length (front bs) ≡ length bs - 1
length-front bs = length-take-le (length bs - 1) bs (omega arith)

length-packed_digits : (bs : List ℕ) → 1 ≤ length bs → length (packed_digits bs) + 1 ≡ 2 * length bs
length-packed_digits bs some =
    omega (arith, length-append (half_bytes (front bs)) (last bs / 16 ∷ []), length-half_bytes (front bs), length-front bs)

-- the first half byte
first_half : (bs ys : List ℕ) → 2 ≤ length bs → take 1 (half_bytes (front bs) ++ ys) ≡ get_or bs 0 0 / 16 ∷ []
first_half [] ys some = absurd (omega arith)
first_half (b ∷ []) ys some = absurd (omega arith)
first_half (b ∷ c ∷ bs) ys some =
    let count : length (b ∷ c ∷ bs) - 1 ≡ suc (length bs) = omega arith in
    ap (λ k. take 1 (half_bytes (take k (b ∷ c ∷ bs)) ++ ys)) count

-- the half bytes to spare: none, or the first one
spare_none : (digits : ℕ) (bs : List ℕ) → length bs ≡ digits / 2 + 1 → digits % 2 ≡ 1 → take (length (packed_digits bs) - digits) (packed_digits bs) ≡ []
spare_none digits bs count odd =
    let none : length (packed_digits bs) - digits ≡ 0 = omega (arith, length-packed_digits bs (omega arith)) in
    ap (λ k. take k (packed_digits bs)) none

spare_one : (digits : ℕ) (bs : List ℕ) → 1 ≤ digits → length bs ≡ digits / 2 + 1 → digits % 2 ≡ 0 →
    take (length (packed_digits bs) - digits) (packed_digits bs) ≡ get_or bs 0 0 / 16 ∷ []
spare_one digits bs some count even =
    let one : length (packed_digits bs) - digits ≡ 1 = omega (arith, length-packed_digits bs (omega arith)) in
    ap (λ k. take k (packed_digits bs)) one ∙ first_half bs (last bs / 16 ∷ []) (omega arith)

-- The half bytes to spare are 0.
pub record HasNoSpare (digits : ℕ) (bs : List ℕ) : Type 0 where
  pub zeros : list_all (λ h. h == 0) (take (length (packed_digits bs) - digits) (packed_digits bs)) ≡ true

pub no_spare_odd : (digits : ℕ) (bs : List ℕ) → length bs ≡ digits / 2 + 1 → digits % 2 ≡ 1 → HasNoSpare digits bs
no_spare_odd digits bs count odd = record { zeros = ap (list_all (λ h. h == 0)) (spare_none digits bs count odd) }

pub no_spare_even : (digits : ℕ) (bs : List ℕ) → 1 ≤ digits → length bs ≡ digits / 2 + 1 → digits % 2 ≡ 0 → get_or bs 0 0 / 16 ≡ 0 → HasNoSpare digits bs
no_spare_even digits bs some count even first =
    record { zeros = ap (list_all (λ h. h == 0)) (spare_one digits bs some count even) ∙ ap (λ h. list_all (λ x. x == 0) (h ∷ [])) first }

-- a half byte to spare that isn't 0
pub spare_bad : (digits : ℕ) (signed : Bool) (bs : List ℕ) → 1 ≤ digits → length bs ≡ digits / 2 + 1 → digits % 2 ≡ 0 → (get_or bs 0 0 / 16 ≡ 0 → ⊥) →
    None ≡ packed_value digits signed bs
spare_bad digits signed bs some count even first =
    let test : list_all (λ h. h == 0) (take (length (packed_digits bs) - digits) (packed_digits bs)) ≡ false =
    ap (list_all (λ h. h == 0)) (spare_one digits bs some count even) ∙ and_left _ true (ne_eqb (get_or bs 0 0 / 16) 0 first) in
    let both_tests = and_left _ (list_all (λ h. nat_lt h 10) (packed_digits bs)) test in
    ap (λ b. if b then option_map (λ minus. signed_number minus (number_of (packed_digits bs))) (packed_sign signed (last bs % 16)) else None) (sym both_tests)

below_base : (hs : List ℕ) → list_all (λ h. nat_lt h 10) hs ≡ true → AllBelowBase 10 hs
below_base [] all = tt
below_base (h ∷ hs) all =
    let parts = and_parts (nat_lt h 10) (list_all (λ x. nat_lt x 10) hs) all in
    (ltb-true h 10 parts.0, below_base hs parts.1)

-- without half bytes to spare the number has at most so many digits
number_below : (digits : ℕ) (hs : List ℕ) → length hs ≤ digits + 1 → list_all (λ h. h == 0) (take (length hs - digits) hs) ≡ true →
    list_all (λ h. nat_lt h 10) hs ≡ true → number_of hs < 10 ^ digits
number_below digits [] count spare all = omega (arith, ten_positive digits)
number_below digits (h ∷ hs) count spare all =
    elim (cases_lt digits (length (h ∷ hs))) as (λ _. number_of (h ∷ hs) < 10 ^ digits) [
      | inl more ↦
          let one : length (h ∷ hs) - digits ≡ 1 = omega arith in
          let first = ap (λ k. list_all (λ x. x == 0) (take k (h ∷ hs))) (sym one) ∙ spare in
          let zero_first : h ≡ 0 = eqb-true h 0 (and_parts (h == 0) true first).0 in
          let parts = and_parts (nat_lt h 10) (list_all (λ x. nat_lt x 10) hs) all in
          let rest = number_lt 10 hs (below_base hs parts.1) in
          let same : length hs ≡ digits = omega arith in
          let shorter : number_of (h ∷ hs) ≡ number_of hs = ap (λ d. number_of (d ∷ hs)) zero_first in
          rw shorter (rw (← same) rest)
      | inr enough ↦ omega (arith, number_lt 10 (h ∷ hs) (below_base (h ∷ hs) all), ten_monotone (length (h ∷ hs)) digits enough)
    ]

-- what the half bytes before the sign are
pub record HasPackedNumber (digits : ℕ) (bs : List ℕ) (n : ℕ) : Type 0 where
  pub all : list_all (λ h. nat_lt h 10) (packed_digits bs) ≡ true
  pub number : n ≡ number_of (packed_digits bs)
  pub below : n < 10 ^ digits

front_number : (hs : List ℕ) (n : ℕ) → Some n ≡ (if list_all (λ h. nat_lt h 10) hs then Some (number_of hs) else None) →
    (list_all (λ h. nat_lt h 10) hs ≡ true) × (n ≡ number_of hs)
front_number hs n some = decided (list_all (λ h. nat_lt h 10) hs) some
  where
    decided : (b : Bool) → Some n ≡ (if b then Some (number_of hs) else None) → (b ≡ true) × (n ≡ number_of hs)
    decided true e = (refl, cc)
    decided false e = cc

pub packed_number : (digits : ℕ) (bs : List ℕ) (n h : ℕ) → length bs ≡ digits / 2 + 1 → HasNoSpare digits bs →
    Some n ≡ (if list_all (λ x. nat_lt x 10) (half_bytes (front bs)) then Some (number_of (half_bytes (front bs))) else None) →
    h ≡ last bs / 16 → h < 10 → HasPackedNumber digits bs (n * 10 + h)
packed_number digits bs n h count no_spare some is small =
    let front_is = front_number (half_bytes (front bs)) n some in
    let high : nat_lt (last bs / 16) 10 ≡ true = lt-ltb (last bs / 16) 10 (omega arith) in
    let all_digits = list_all-append (λ x. nat_lt x 10) (half_bytes (front bs)) (last bs / 16 ∷ []) ∙ and_from _ _ front_is.0 (and_from (nat_lt (last bs / 16) 10) true high refl) in
    let value : n * 10 + h ≡ number_of (packed_digits bs) = omega (arith, front_is.1, number_push 10 (half_bytes (front bs)) (last bs / 16)) in
    let bound = number_below digits (packed_digits bs) (omega (arith, length-packed_digits bs (omega arith))) no_spare.zeros all_digits in
    record { all = all_digits; number = value; below = rw value bound }

pub packed_is : (digits : ℕ) (signed : Bool) (bs : List ℕ) (n : ℕ) (minus : Bool) → HasNoSpare digits bs → HasPackedNumber digits bs n →
    Some minus ≡ packed_sign signed (last bs % 16) → Some (signed_number minus n) ≡ packed_value digits signed bs
packed_is digits signed bs n minus no_spare has sign =
    let both_tests = and_from _ _ no_spare.zeros has.all in
    ap (λ k. Some (signed_number minus k)) has.number
    ∙ (ap (option_map (λ (m : Bool). signed_number m (number_of (packed_digits bs)))) sign
    ∙ ap (λ b. if b then option_map (λ m. signed_number m (number_of (packed_digits bs))) (packed_sign signed (last bs % 16)) else None) (sym both_tests))

-- ---- writing: m digits stand from place i on

pub rest_hundred : (v m : ℕ) → v / 10 ^ m / 100 ≡ v / 10 ^ (m + 2)
rest_hundred v m = div-div-eq-div-mul v (10 ^ m) 100 ∙ ap (λ p. v / p) (sym (pow-add 10 m 2))

pub packed_rest_step : (xs : List ℕ) (at v r y : ℕ) → 0 < at → at < length xs → r ≡ v / 10 ^ (2 * (length xs - at) - 1) →
    r / 100 ≡ v / 10 ^ (2 * (length (set xs (at - 1) y) - (at - 1)) - 1)
packed_rest_step xs at v r y some within is =
    let count : 2 * (length xs - at) - 1 + 2 ≡ 2 * (length (set xs (at - 1) y) - (at - 1)) - 1 = omega (arith, length-set xs (at - 1) y) in
    ap (λ q. q / 100) is ∙ (rest_hundred v (2 * (length xs - at) - 1) ∙ ap (λ k. v / 10 ^ k) count)

pub packed_step : (xs : List ℕ) (at v r y code : ℕ) → 0 < at → at < length xs → r ≡ v / 10 ^ (2 * (length xs - at) - 1) →
    y ≡ r / 10 % 10 * 16 + r % 10 →
    drop at xs ≡ packed (last_digits (2 * (length xs - at) - 1) v ++ code ∷ []) →
    drop (at - 1) (set xs (at - 1) y) ≡ packed (last_digits (2 * (length (set xs (at - 1) y) - (at - 1)) - 1) v ++ code ∷ [])
packed_step xs at v r y code some within is byte after =
    let next : at - 1 + 1 ≡ at = omega arith in
    let count : suc (suc (2 * (length xs - at) - 1)) ≡ 2 * (length (set xs (at - 1) y) - (at - 1)) - 1 = omega (arith, length-set xs (at - 1) y) in
    let high : r / 10 ≡ v / 10 ^ suc (2 * (length xs - at) - 1) = ap (λ q. q / 10) is ∙ (rest_more v (2 * (length xs - at) - 1) ∙ ap (λ k. v / 10 ^ k) (omega arith)) in
    let high_digit = ap (λ q. q % 10) high in
    let low_digit = ap (λ q. q % 10) is in
    let value : y ≡ 16 * digit_at (suc (2 * (length xs - at) - 1)) v + digit_at (2 * (length xs - at) - 1) v = omega (arith, byte, high_digit, low_digit) in
    drop-set xs (at - 1) y (omega arith)
    ∙ (ap (λ ys. y ∷ ys) (ap (λ k. drop k xs) next ∙ after)
    ∙ (ap (λ b. b ∷ packed (last_digits (2 * (length xs - at) - 1) v ++ code ∷ [])) value
    ∙ ap (λ k. packed (last_digits k v ++ code ∷ [])) count))
