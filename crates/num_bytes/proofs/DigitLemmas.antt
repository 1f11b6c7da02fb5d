-- Digits read one after another, and written from the last one on.
use Rattle.std.proofs.Common.{◌≡◌, ℕ, ◌+◌, ◌-◌, ◌*◌, ◌/◌, ◌%◌, ◌^◌, ◌<◌, ◌≤◌, zero, suc, Bool, true, List, ◌∷◌, length, get_or, take, drop, set, map, refl, ap, ◌∙◌, sym, arith}
use Rattle.std.proofs.lemmas.List.{map_more, drop-set, length-set}
use Rattle.std.proofs.lemmas.List.Folds.{list_all_more}
use Rattle.std.proofs.lemmas.Int.Digits.{number_push}
use Rattle.std.proofs.lemmas.Grind.{pow_more}
use Rattle.std.proofs.Math.Nat.{div-div-eq-div-mul}
use Rattle.std.specs.List.{list_all}
use Rattle.dec_num.proofs.Powers.{ten_monotone}
use Rattle.num_bytes.specs.Digits.{number_of, digit_at, last_digits, digit_text}

pub number_more : (bs : List ℕ) (i n x : ℕ) → i < length bs → n ≡ number_of (map (λ b. b - 48) (take i bs)) → x ≡ get_or bs i 0 - 48 →
    n * 10 + x ≡ number_of (map (λ b. b - 48) (take (i + 1) bs))
number_more bs i n x lt is at =
    let more = map_more (λ b. b - 48) bs i 0 lt in
    let push = number_push 10 (map (λ b. b - 48) (take i bs)) (get_or bs i 0 - 48) in
    ap (λ m. m * 10 + x) is ∙ (ap (λ d. number_of (map (λ b. b - 48) (take i bs)) * 10 + d) at ∙ (sym push ∙ ap number_of (sym more)))

pub bound_more : (i n x : ℕ) → n < 10 ^ i → x < 10 → n * 10 + x < 10 ^ (i + 1)
bound_more i n x below digit = omega (arith, pow_more 10 i)

pub bound_fits : (i n : ℕ) → i < 18 → n < 10 ^ i → n * 10 + 9 < 10 ^ 18
bound_fits i n small below = omega (arith, ten_monotone i 17 (omega arith))

pub all_more : (p : ℕ → Bool) (bs : List ℕ) (i : ℕ) → i < length bs → list_all p (take i bs) ≡ true → p (get_or bs i 0) ≡ true →
    list_all p (take (i + 1) bs) ≡ true
all_more p bs i lt before here = grind (arith, list_all_more p bs i 0 lt)

-- one digit more from the right
pub rest_more : (v k : ℕ) → v / 10 ^ k / 10 ≡ v / 10 ^ (k + 1)
rest_more v k = div-div-eq-div-mul v (10 ^ k) 10 ∙ ap (λ p. v / p) (sym (pow_more 10 k))

pub digits_more : (xs : List ℕ) (i n v r : ℕ) → i < length xs → r ≡ v / 10 ^ n → drop (i + 1) xs ≡ digit_text (last_digits n v) →
    drop i (set xs i (48 + r % 10)) ≡ digit_text (last_digits (suc n) v)
digits_more xs i n v r lt is after =
    drop-set xs i (48 + r % 10) lt ∙ (ap (λ ys. (48 + r % 10) ∷ ys) after ∙ ap (λ q. (48 + q % 10) ∷ digit_text (last_digits n v)) is)

pub rest_step : (xs : List ℕ) (at v r y : ℕ) → 0 < at → at ≤ length xs → r ≡ v / 10 ^ (length xs - at) →
    r / 10 ≡ v / 10 ^ (length (set xs (at - 1) y) - (at - 1))
rest_step xs at v r y some within is =
    let count : length xs - at + 1 ≡ length (set xs (at - 1) y) - (at - 1) = omega (arith, length-set xs (at - 1) y) in
    ap (λ q. q / 10) is ∙ (rest_more v (length xs - at) ∙ ap (λ k. v / 10 ^ k) count)

pub written_step : (xs : List ℕ) (at v r : ℕ) → 0 < at → at ≤ length xs → r ≡ v / 10 ^ (length xs - at) →
    drop at xs ≡ digit_text (last_digits (length xs - at) v) →
    drop (at - 1) (set xs (at - 1) (48 + r % 10)) ≡ digit_text (last_digits (length (set xs (at - 1) (48 + r % 10)) - (at - 1)) v)
written_step xs at v r some within is after =
    let next : at - 1 + 1 ≡ at = omega arith in
    let count : suc (length xs - at) ≡ length (set xs (at - 1) (48 + r % 10)) - (at - 1) = omega (arith, length-set xs (at - 1) (48 + r % 10)) in
    let step = digits_more xs (at - 1) (length xs - at) v r (omega arith) is (ap (λ k. drop k xs) next ∙ after) in
    step ∙ ap (λ k. digit_text (last_digits k v)) count

pub length-digit_text : (n v : ℕ) → length (digit_text (last_digits n v)) ≡ n
length-digit_text zero v = refl
length-digit_text (suc n) v = ap suc (length-digit_text n v)

pub digits_counted : (ys : List ℕ) (k n v : ℕ) → ys ≡ digit_text (last_digits k v) → length ys ≡ n → ys ≡ digit_text (last_digits n v)
digits_counted ys k n v is count = is ∙ ap (λ j. digit_text (last_digits j v)) (sym (length-digit_text k v) ∙ (sym (ap length is) ∙ count))

-- the digit at a place, from the right
pub digit_text_at : (n v i d : ℕ) → i < n → get_or (digit_text (last_digits n v)) i d ≡ 48 + digit_at (n - 1 - i) v
digit_text_at zero v i d h = absurd (omega arith)
digit_text_at (suc n) v zero d h = ap (λ k. 48 + digit_at k v) (omega arith)
digit_text_at (suc n) v (suc i) d h = digit_text_at n v i d (omega arith) ∙ ap (λ k. 48 + digit_at k v) (omega arith)
