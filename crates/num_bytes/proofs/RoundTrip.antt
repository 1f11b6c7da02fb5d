-- What is written reads back.
use Rattle.std.proofs.Common.{◌≡◌, ◌==◌, ℕ, ◌+◌, ◌-◌, ◌*◌, ◌/◌, ◌%◌, ◌^◌, ◌<◌, ◌≤◌, zero, suc, nat_lt, nat_le, Bool, true, false, ◌&&◌, if◌then◌else◌, List, [], ◌∷◌, ◌++◌, map, length, take, refl, ap, ◌∙◌, sym, inl, inr, arith, Option, Some, None, ℤ, pos, negsuc, unsigned_abs}
use Rattle.std.proofs.lemmas.Bool.{and_from, and_parts, le-leb, lt-ltb, ltb-true, eq-eqb, cases_lt, cond_both, leb-true}
use Rattle.std.proofs.lemmas.List.{append_assoc, length-append, take_at, take_all, take_more, get_or_at, same_from_push}
use Rattle.std.proofs.lemmas.Int.Digits.{number_push}
use Rattle.std.proofs.lemmas.Grind.{pow_more}
use Rattle.std.proofs.lemmas.Nat.{div-add-mod', mod_below, div_below, from_be_bytes-to_be_bytes_2, from_be_bytes-to_be_bytes_4, from_be_bytes-to_be_bytes_8}
use Rattle.std.proofs.lemmas.Int.{ints, to_z-of_z, fits_signed_from_abs}
use mir.Val.{SFits}
use Rattle.std.specs.Int.{w16, w32, w64, to_be_bytes, cast_unsigned, cast_signed, Width}
use Rattle.std.specs.List.{list_all}
use Rattle.std.specs.Option.{option_map}
use Rattle.std.specs.Char.{is_ascii_digit}
use Rattle.std.specs.Int.Digits.{number_from_digits_after}
use Rattle.dec_num.proofs.Powers.{ten_positive, ten_monotone}
use Rattle.num_bytes.specs.Digits.{number_of, signed_number, last_digits, digit_at, digit_text, digits_in}
use Rattle.num_bytes.specs.Reading.{both, front, last, half_bytes, packed_digits, packed_sign, packed_value, unsigned_value, signed_digit, overpunched_value, separate_sign, leading_value, trailing_value, twos_complement, binary_width, is_own, number_value, contents_value}
use Rattle.num_bytes.specs.Writing.{packed, overpunched_digit, sign_byte, sign_half, is_minus, number_bytes, contents_bytes, CanHold}
use Rattle.cob_tree.specs.declared.form.Form.{Form}
use Rattle.cob_tree.specs.declared.form.Form.TheVariants.{Group, Text, Number, Edited}
use Rattle.cob_tree.specs.declared.form.Usage.{Usage}
use Rattle.cob_tree.specs.declared.form.Usage.TheVariants.{Display, Leading, Trailing, Binary, Packed}
use Rattle.num_bytes.proofs.DigitLemmas.{rest_more}
use Rattle.num_bytes.proofs.PackedLemmas.{half_bytes-append}

-- ---- the number of the last digits

digits_after : (n v a : ℕ) → number_from_digits_after 10 a (last_digits n v) + v / 10 ^ n * 10 ^ n ≡ a * 10 ^ n + v
digits_after zero v a = omega arith
digits_after (suc n) v a =
    let split : v / 10 ^ n / 10 * 10 + digit_at n v ≡ v / 10 ^ n = div-add-mod' (v / 10 ^ n) 10 in
    let higher : v / 10 ^ n / 10 ≡ v / 10 ^ suc n = rest_more v n ∙ ap (λ k. v / 10 ^ k) (omega arith) in
    let power : 10 ^ suc n ≡ 10 ^ n * 10 = ap (λ k. 10 ^ k) (omega arith) ∙ pow_more 10 n in
    let step = digits_after n v (a * 10 + digit_at n v) in
    let shared : (v / 10 ^ n / 10 * 10 + digit_at n v) * 10 ^ n ≡ v / 10 ^ n * 10 ^ n = ap (λ x. x * 10 ^ n) split in
    let left : v / 10 ^ suc n * 10 ^ suc n ≡ v / 10 ^ n / 10 * (10 ^ n * 10) = ap (λ x. x * 10 ^ suc n) (sym higher) ∙ ap (λ x. v / 10 ^ n / 10 * x) power in
    let right : a * 10 ^ suc n ≡ a * (10 ^ n * 10) = ap (λ x. a * x) power in
    omega (arith, step, shared, left, right)

-- the higher digits of a number below 10 ^ n are 0
none_above : (n v : ℕ) → v < 10 ^ n → v / 10 ^ n ≡ 0
none_above n v below = let small : v / 10 ^ n < 1 = div_below v (10 ^ n) 1 (ten_positive n) (omega arith) in omega arith

pub number-last_digits : (n v : ℕ) → v < 10 ^ n → number_of (last_digits n v) ≡ v
number-last_digits n v below = omega (arith, digits_after n v 0, ap (λ q. q * 10 ^ n) (none_above n v below))

-- ---- digits as characters

digit_small : (n v : ℕ) → digit_at n v < 10
digit_small n v = mod_below (v / 10 ^ n) 10 (omega arith)

all_digits : (n v : ℕ) → list_all is_ascii_digit (digit_text (last_digits n v)) ≡ true
all_digits zero v = refl
all_digits (suc n) v =
    let small = digit_small n v in
    let low : nat_le 48 (48 + digit_at n v) ≡ true = le-leb 48 (48 + digit_at n v) (omega arith) in
    let high : nat_le (48 + digit_at n v) 57 ≡ true = le-leb (48 + digit_at n v) 57 (omega arith) in
    and_from _ _ (and_from _ _ low high) (all_digits n v)

read_back : (n v : ℕ) → map (λ b. b - 48) (digit_text (last_digits n v)) ≡ last_digits n v
read_back zero v = refl
read_back (suc n) v =
    let here : 48 + digit_at n v - 48 ≡ digit_at n v = omega arith in
    ap (λ d. d ∷ map (λ b. b - 48) (digit_text (last_digits n v))) here ∙ ap (λ ds. digit_at n v ∷ ds) (read_back n v)

digits_in-digit_text : (n v : ℕ) → digits_in (digit_text (last_digits n v)) ≡ Some (last_digits n v)
digits_in-digit_text n v =
    ap (λ b. if b then Some (map (λ x. x - 48) (digit_text (last_digits n v))) else None) (all_digits n v) ∙ ap Some (read_back n v)

-- ---- numbers with a sign

pub signed-size : (z : ℤ) → signed_number (is_minus z) (unsigned_abs z) ≡ z
signed-size (pos n) = refl
signed-size (negsuc n) = refl

pub unsigned_back : (n v : ℕ) → v < 10 ^ n → unsigned_value (digit_text (last_digits n v)) ≡ Some (pos v)
unsigned_back n v below =
    ap (option_map (λ (ds : List ℕ). pos (number_of ds))) (digits_in-digit_text n v) ∙ ap (λ k. Some (pos k)) (number-last_digits n v below)

front-push : (xs : List ℕ) (x : ℕ) → front (xs ++ x ∷ []) ≡ xs
front-push xs x = take_at xs (x ∷ []) (length (xs ++ x ∷ []) - 1) (omega (arith, length-append xs (x ∷ [])))

last-push : (xs : List ℕ) (x : ℕ) → last (xs ++ x ∷ []) ≡ x
last-push xs x = get_or_at xs x [] 0 (length (xs ++ x ∷ []) - 1) (omega (arith, length-append xs (x ∷ [])))

sign_back : (minus : Bool) → separate_sign (sign_byte minus) ≡ Some minus
sign_back true = refl
sign_back false = refl

pub leading_back : (n v : ℕ) (minus : Bool) → v < 10 ^ n → leading_value (sign_byte minus ∷ digit_text (last_digits n v)) ≡ Some (signed_number minus v)
leading_back n v minus below =
    ap (λ s. both (λ (m : Bool) (ds : List ℕ). signed_number m (number_of ds)) s (digits_in (digit_text (last_digits n v)))) (sign_back minus)
    ∙ (ap (both (λ (m : Bool) (ds : List ℕ). signed_number m (number_of ds)) (Some minus)) (digits_in-digit_text n v)
    ∙ ap (λ k. Some (signed_number minus k)) (number-last_digits n v below))

pub trailing_back : (n v : ℕ) (minus : Bool) → v < 10 ^ n → trailing_value (digit_text (last_digits n v) ++ sign_byte minus ∷ []) ≡ Some (signed_number minus v)
trailing_back n v minus below =
    let sign = ap separate_sign (last-push (digit_text (last_digits n v)) (sign_byte minus)) ∙ sign_back minus in
    let digits = ap digits_in (front-push (digit_text (last_digits n v)) (sign_byte minus)) ∙ digits_in-digit_text n v in
    ap (λ s. both (λ (m : Bool) (ds : List ℕ). signed_number m (number_of ds)) s (digits_in (front (digit_text (last_digits n v) ++ sign_byte minus ∷ [])))) sign
    ∙ (ap (both (λ (m : Bool) (ds : List ℕ). signed_number m (number_of ds)) (Some minus)) digits
    ∙ ap (λ k. Some (signed_number minus k)) (number-last_digits n v below))

digit_back : (minus : Bool) (d : ℕ) → d < 10 → signed_digit (overpunched_digit minus d) ≡ Some (minus, d)
digit_back true d small = grind arith
digit_back false d small = grind arith

pub overpunched_back : (n v : ℕ) (minus : Bool) → v < 10 ^ (n + 1) →
    overpunched_value (digit_text (last_digits n (v / 10)) ++ overpunched_digit minus (v % 10) ∷ []) ≡ Some (signed_number minus v)
overpunched_back n v minus below =
    let small : v / 10 < 10 ^ n = div_below v 10 (10 ^ n) (omega arith) (omega (arith, pow_more 10 n)) in
    let digits = ap digits_in (front-push (digit_text (last_digits n (v / 10))) (overpunched_digit minus (v % 10))) ∙ digits_in-digit_text n (v / 10) in
    let end = ap signed_digit (last-push (digit_text (last_digits n (v / 10))) (overpunched_digit minus (v % 10))) ∙ digit_back minus (v % 10) (mod_below v 10 (omega arith)) in
    let number : number_of (last_digits n (v / 10) ++ v % 10 ∷ []) ≡ v =
    omega (arith, number_push 10 (last_digits n (v / 10)) (v % 10), number-last_digits n (v / 10) small) in
    ap (λ o. both (λ (ds : List ℕ) (d : Bool × ℕ). signed_number d.0 (number_of (ds ++ d.1 ∷ []))) o
    (signed_digit (last (digit_text (last_digits n (v / 10)) ++ overpunched_digit minus (v % 10) ∷ [])))) digits
    ∙ (ap (both (λ (ds : List ℕ) (d : Bool × ℕ). signed_number d.0 (number_of (ds ++ d.1 ∷ []))) (Some (last_digits n (v / 10)))) end
    ∙ ap (λ k. Some (signed_number minus k)) number)

-- ---- packed items

half_back : (a b : ℕ) → b < 16 → ((16 * a + b) / 16 ≡ a) × ((16 * a + b) % 16 ≡ b)
half_back a b small = (omega arith, omega arith)

-- 1, 3, 5 and so on
odd : ℕ → ℕ
odd zero = 1
odd (suc k) = suc (suc (odd k))

odd_is : (k : ℕ) → odd k ≡ 2 * k + 1
unfolding odd
odd_is zero = refl
odd_is (suc k) = omega (arith, odd_is k)

halves_back : (k v code : ℕ) → code < 16 → half_bytes (packed (last_digits (odd k) v ++ code ∷ [])) ≡ last_digits (odd k) v ++ code ∷ []
unfolding odd
halves_back zero v code small =
    let back = half_back (digit_at 0 v) code small in
    ap (λ h. h ∷ (16 * digit_at 0 v + code) % 16 ∷ []) back.0 ∙ ap (λ l. digit_at 0 v ∷ l ∷ []) back.1
halves_back (suc k) v code small =
    let back = half_back (digit_at (suc (odd k)) v) (digit_at (odd k) v) (omega (arith, digit_small (odd k) v)) in
    let rest = halves_back k v code small in
    ap (λ h. h ∷ (16 * digit_at (suc (odd k)) v + digit_at (odd k) v) % 16 ∷ half_bytes (packed (last_digits (odd k) v ++ code ∷ []))) back.0
    ∙ (ap (λ l. digit_at (suc (odd k)) v ∷ l ∷ half_bytes (packed (last_digits (odd k) v ++ code ∷ []))) back.1
    ∙ ap (λ hs. digit_at (suc (odd k)) v ∷ digit_at (odd k) v ∷ hs) rest)

-- all half bytes are those before the last one, and the last one
all_halves : (bs : List ℕ) → 1 ≤ length bs → half_bytes bs ≡ packed_digits bs ++ last bs % 16 ∷ []
all_halves bs some =
    let end : length bs - 1 + 1 ≡ length bs = omega arith in
    let split : bs ≡ front bs ++ last bs ∷ [] =
    sym (take_all (length bs - 1 + 1) bs (omega arith)) ∙ take_more bs (length bs - 1) 0 (omega arith) in
    ap half_bytes split ∙ (half_bytes-append (front bs) (last bs ∷ []) ∙ sym (append_assoc (half_bytes (front bs)) (last bs / 16 ∷ []) (last bs % 16 ∷ [])))

length-last_digits : (n v : ℕ) → length (last_digits n v) ≡ n
length-last_digits zero v = refl
length-last_digits (suc n) v = ap suc (length-last_digits n v)

length-packed : (k v code : ℕ) → length (packed (last_digits (odd k) v ++ code ∷ [])) ≡ suc k
unfolding odd
length-packed zero v code = refl
length-packed (suc k) v code = ap suc (length-packed k v code)

packed_parts : (k v code : ℕ) → code < 16 → let bs = packed (last_digits (odd k) v ++ code ∷ []) in
    (packed_digits bs ≡ last_digits (odd k) v) × (last bs % 16 ≡ code)
packed_parts k v code small =
    let bs = packed (last_digits (odd k) v ++ code ∷ []) in
    same_from_push (packed_digits bs) (last_digits (odd k) v) (last bs % 16) code
    (sym (all_halves bs (omega (arith, length-packed k v code))) ∙ halves_back k v code small)

digits_below : (n v : ℕ) → list_all (λ h. nat_lt h 10) (last_digits n v) ≡ true
digits_below zero v = refl
digits_below (suc n) v = and_from _ _ (lt-ltb (digit_at n v) 10 (digit_small n v)) (digits_below n v)

-- the digits above those of the item are 0
spare_zero : (digits m v : ℕ) → digits ≤ m → m ≤ digits + 1 → v < 10 ^ digits → list_all (λ h. h == 0) (take (m - digits) (last_digits m v)) ≡ true
spare_zero digits zero v low high below =
    let nothing : 0 - digits ≡ 0 = omega arith in
    ap (λ k. list_all (λ h. h == 0) (take k (last_digits 0 v))) nothing
spare_zero digits (suc m) v low high below =
    elim (cases_lt digits (suc m)) as (λ _. list_all (λ h. h == 0) (take (suc m - digits) (last_digits (suc m) v)) ≡ true) [
      | inl more ↦
          let one : suc m - digits ≡ 1 = omega arith in
          let same : digits ≡ m = omega arith in
          let none = none_above m v (omega (arith, below, ten_monotone digits m (omega arith))) in
          ap (λ k. list_all (λ h. h == 0) (take k (last_digits (suc m) v))) one ∙ and_from (digit_at m v == 0) true (eq-eqb (digit_at m v) 0 (ap (λ q. q % 10) none)) refl
      | inr enough ↦
          let nothing : suc m - digits ≡ 0 = omega arith in
          ap (λ k. list_all (λ h. h == 0) (take k (last_digits (suc m) v))) nothing
    ]

-- the number of these half bytes before this last one
abbrev packed_from : ℕ → Bool → List ℕ → ℕ → Option ℤ
packed_from digits signed hs code =
    if list_all (λ h. h == 0) (take (length hs - digits) hs) && list_all (λ h. nat_lt h 10) hs
    then option_map (λ minus. signed_number minus (number_of hs)) (packed_sign signed code)
    else None

from_back : (digits m v code : ℕ) (signed minus : Bool) → digits ≤ m → m ≤ digits + 1 → v < 10 ^ digits → packed_sign signed code ≡ Some minus →
    packed_from digits signed (last_digits m v) code ≡ Some (signed_number minus v)
from_back digits m v code signed minus low high below sign =
    let spare = ap (λ n. list_all (λ h. h == 0) (take (n - digits) (last_digits m v))) (length-last_digits m v) ∙ spare_zero digits m v low high below in
    let number = number-last_digits m v (omega (arith, below, ten_monotone digits m low)) in
    ap (λ b. if b then option_map (λ (s : Bool). signed_number s (number_of (last_digits m v))) (packed_sign signed code) else None)
    (and_from _ _ spare (digits_below m v))
    ∙ (ap (option_map (λ (s : Bool). signed_number s (number_of (last_digits m v)))) sign ∙ ap (λ n. Some (signed_number minus n)) number)

odd_back : (digits k v code : ℕ) (signed minus : Bool) → digits ≤ odd k → odd k ≤ digits + 1 → code < 16 → v < 10 ^ digits →
    packed_sign signed code ≡ Some minus →
    packed_value digits signed (packed (last_digits (odd k) v ++ code ∷ [])) ≡ Some (signed_number minus v)
odd_back digits k v code signed minus low high small below sign =
    let parts = packed_parts k v code small in
    ap (λ hs. packed_from digits signed hs (last (packed (last_digits (odd k) v ++ code ∷ [])) % 16)) parts.0
    ∙ (ap (packed_from digits signed (last_digits (odd k) v)) parts.1 ∙ from_back digits (odd k) v code signed minus low high below sign)

pub packed_back : (digits v code : ℕ) (signed minus : Bool) → code < 16 → v < 10 ^ digits → packed_sign signed code ≡ Some minus →
    packed_value digits signed (packed (last_digits (2 * (digits / 2) + 1) v ++ code ∷ [])) ≡ Some (signed_number minus v)
packed_back digits v code signed minus small below sign =
    let count : odd (digits / 2) ≡ 2 * (digits / 2) + 1 = odd_is (digits / 2) in
    ap (λ m. packed_value digits signed (packed (last_digits m v ++ code ∷ []))) (sym count)
    ∙ odd_back digits (digits / 2) v code signed minus (omega arith) (omega arith) small below sign

-- ---- binary items

binary_back_2 : (z : ℤ) → unsigned_abs z < 10 ^ 4 → twos_complement w16 (to_be_bytes w16 (cast_unsigned w16 z)) ≡ z
binary_back_2 z small =
    let fits : SFits w16 z = fits_signed_from_abs w16 z (omega arith) in
    let bits : cast_unsigned w16 z < 2 ^ 16 = omega (arith, ints) in
    ap (cast_signed w16) (from_be_bytes-to_be_bytes_2 (cast_unsigned w16 z) bits) ∙ to_z-of_z w16 z fits

binary_back_4 : (z : ℤ) → unsigned_abs z < 10 ^ 9 → twos_complement w32 (to_be_bytes w32 (cast_unsigned w32 z)) ≡ z
binary_back_4 z small =
    let fits : SFits w32 z = fits_signed_from_abs w32 z (omega arith) in
    let bits : cast_unsigned w32 z < 2 ^ 32 = omega (arith, ints) in
    ap (cast_signed w32) (from_be_bytes-to_be_bytes_4 (cast_unsigned w32 z) bits) ∙ to_z-of_z w32 z fits

binary_back_8 : (z : ℤ) → unsigned_abs z < 10 ^ 18 → twos_complement w64 (to_be_bytes w64 (cast_unsigned w64 z)) ≡ z
binary_back_8 z small =
    let fits : SFits w64 z = fits_signed_from_abs w64 z (omega arith) in
    let bits : cast_unsigned w64 z < 2 ^ 64 = omega (arith, ints) in
    ap (cast_signed w64) (from_be_bytes-to_be_bytes_8 (cast_unsigned w64 z) bits) ∙ to_z-of_z w64 z fits

width_back : (digits : ℕ) (z : ℤ) → digits ≤ 18 → unsigned_abs z < 10 ^ digits →
    twos_complement (binary_width digits) (to_be_bytes (binary_width digits) (cast_unsigned (binary_width digits) z)) ≡ z
width_back digits z high small =
    let Back : Width → Type 0 = λ w. twos_complement w (to_be_bytes w (cast_unsigned w z)) ≡ z in
    cond_both (nat_le digits 4) w16 (if nat_le digits 9 then w32 else w64) Back
    (λ e. binary_back_2 z (omega (arith, small, ten_monotone digits 4 (leb-true digits 4 e))))
    (λ _. cond_both (nat_le digits 9) w32 w64 Back
    (λ e. binary_back_4 z (omega (arith, small, ten_monotone digits 9 (leb-true digits 9 e))))
    (λ _. binary_back_8 z (omega (arith, small, ten_monotone digits 18 high))))

-- ---- all usages

own_size : (digits : ℕ) (signed : Bool) (z : ℤ) → is_own digits signed z ≡ true → unsigned_abs z < 10 ^ digits
own_size digits signed (pos n) own = ltb-true n (10 ^ digits) own
own_size digits signed (negsuc n) own = omega (arith, ltb-true (n + 1) (10 ^ digits) (and_parts signed (nat_lt (n + 1) (10 ^ digits)) own).1)

own_unsigned : (digits : ℕ) (z : ℤ) → is_own digits false z ≡ true → is_minus z ≡ false
own_unsigned digits (pos n) own = refl
own_unsigned digits (negsuc n) own = cc

half_sign : (signed minus : Bool) → (signed ≡ false → minus ≡ false) → packed_sign signed (sign_half signed minus) ≡ Some minus
half_sign true true plain = refl
half_sign true false plain = refl
half_sign false minus plain = ap Some (sym (plain refl))

half_small : (signed minus : Bool) → sign_half signed minus < 16
half_small true true = omega arith
half_small true false = omega arith
half_small false minus = omega arith

pub number_back : (digits : ℕ) (signed : Bool) (usage : Usage) (z : ℤ) → 1 ≤ digits → digits ≤ 18 → is_own digits signed z ≡ true →
    number_value digits signed usage (number_bytes digits signed usage z) ≡ Some z
number_back digits true Display z some high own =
    let size : unsigned_abs z < 10 ^ (digits - 1 + 1) = rw (← whole) (own_size digits true z own) in
    overpunched_back (digits - 1) (unsigned_abs z) (is_minus z) size ∙ ap Some (signed-size z)
  where
    whole : digits ≡ digits - 1 + 1
    whole = omega arith
number_back digits false Display z some high own =
    let plus = ap (λ m. signed_number m (unsigned_abs z)) (own_unsigned digits z own) in
    unsigned_back digits (unsigned_abs z) (own_size digits false z own) ∙ ap Some (sym plus ∙ signed-size z)
number_back digits signed Leading z some high own =
    leading_back digits (unsigned_abs z) (is_minus z) (own_size digits signed z own) ∙ ap Some (signed-size z)
number_back digits signed Trailing z some high own =
    trailing_back digits (unsigned_abs z) (is_minus z) (own_size digits signed z own) ∙ ap Some (signed-size z)
number_back digits signed Binary z some high own =
    let back = width_back digits z high (own_size digits signed z own) in
    ap (λ x. if is_own digits signed x then Some x else None) back ∙ ap (λ b. if b then Some z else None) own
number_back digits signed Packed z some high own =
    let plain : signed ≡ false → is_minus z ≡ false =
    λ (e : signed ≡ false). own_unsigned digits z (ap (λ s. is_own digits s z) (sym e) ∙ own) in
    packed_back digits (unsigned_abs z) (sign_half signed (is_minus z)) signed (is_minus z) (half_small signed (is_minus z))
    (own_size digits signed z own) (half_sign signed (is_minus z) plain)
    ∙ ap Some (signed-size z)

pub contents_back : (form : Form) (z : ℤ) (bytes : ℕ) → CanHold form z bytes → contents_value form (contents_bytes form z) ≡ Some z
contents_back Group z bytes can = absurd can
contents_back (Text n) z bytes can = absurd can
contents_back (Number digits scale signed usage) z bytes can = number_back digits signed usage z can.0.some_digits can.0.at_most_18 can.1
contents_back (Edited picture digits scale) z bytes can = absurd can
