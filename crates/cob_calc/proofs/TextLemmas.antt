-- Texts of one length, byte for byte.
use Rattle.std.proofs.Common.{◌≡◌, ℕ, ◌+◌, ◌-◌, ◌<◌, ◌≤◌, ◌==◌, nat_lt, true, false, List, ◌∷◌, ◌++◌, length, get_or, drop, replicate, if◌then◌else◌, inl, inr, refl, sym, ap, ◌∙◌, arith}
use Rattle.std.proofs.lemmas.Bool.{cases_lt}
use Rattle.std.proofs.lemmas.Bool.Decides.{nat_tests}
use Rattle.std.proofs.lemmas.List.{drop_more, drop_all, get_or-take, get_or-replicate, get_or-append_right, get_or_default, length-append, length-replicate, length-take-le}
use Rattle.std.proofs.Math.ListN.{get_or-append, get_or-eq_default}
use Rattle.dec_num.proofs.Powers.{ten_positive, ten_monotone}
use Rattle.num_bytes.specs.Digits.{digit_at, last_digits, digit_text}
use Rattle.num_bytes.proofs.DigitLemmas.{length-digit_text, digit_text_at}
use Rattle.cob_runs.specs.Contents.{fitted}
use Rattle.cob_runs.specs.Deciding.{below, equal, above, bytes_order}

pub length-fitted : (n : ℕ) (a : List ℕ) → length (fitted n a) ≡ n
length-fitted n a = length-take-le n (a ++ replicate n 32) (omega (arith, length-append a (replicate n 32), length-replicate {A = ℕ} n 32))

-- the byte at a place, or a space
pub fitted_at : (n : ℕ) (a : List ℕ) (i d : ℕ) → i < n → get_or (fitted n a) i d ≡ get_or a i 32
fitted_at n a i d h = elim (cases_lt i (length a)) as (λ _. get_or (fitted n a) i d ≡ get_or a i 32) [
  | inl inside ↦ get_or-take n (a ++ replicate n 32) i d h ∙ get_or-append a (replicate n 32) d i inside ∙ get_or_default a i d 32 inside
  | inr past ↦
      get_or-take n (a ++ replicate n 32) i d h ∙ get_or-append_right a (replicate n 32) (length a) i d refl past
      ∙ get_or-replicate n (i - length a) 32 d (omega arith) ∙ sym (get_or-eq_default a 32 past)
]

-- ---- the first byte that differs

fitted_step : (n : ℕ) (a : List ℕ) (i x : ℕ) → i < n → x ≡ get_or a i 32 → drop i (fitted n a) ≡ x ∷ drop (i + 1) (fitted n a)
fitted_step n a i x h e = drop_more (fitted n a) i 0 (omega (arith, length-fitted n a)) ∙ ap (λ y. y ∷ drop (i + 1) (fitted n a)) (fitted_at n a i 0 h ∙ sym e)

order_step : (n : ℕ) (a b : List ℕ) (i x y : ℕ) → i < n → x ≡ get_or a i 32 → y ≡ get_or b i 32 →
    bytes_order (drop i (fitted n a)) (drop i (fitted n b)) ≡ (if x == y then bytes_order (drop (i + 1) (fitted n a)) (drop (i + 1) (fitted n b)) else (if nat_lt x y then below else above))
order_step n a b i x y h ex ey =
    ap (λ xs. bytes_order xs (drop i (fitted n b))) (fitted_step n a i x h ex) ∙ ap (bytes_order (x ∷ drop (i + 1) (fitted n a))) (fitted_step n b i y h ey)

pub order_less : (n : ℕ) (a b : List ℕ) (i x y : ℕ) → i < n → x ≡ get_or a i 32 → y ≡ get_or b i 32 → x < y → below ≡ bytes_order (drop i (fitted n a)) (drop i (fitted n b))
order_less n a b i x y h ex ey less =
    let differ : (x == y) ≡ false = grind (arith, nat_tests) in
    let first : nat_lt x y ≡ true = grind (arith, nat_tests) in
    sym (order_step n a b i x y h ex ey ∙ rw (differ, first) refl)

pub order_greater : (n : ℕ) (a b : List ℕ) (i x y : ℕ) → i < n → x ≡ get_or a i 32 → y ≡ get_or b i 32 → y < x → above ≡ bytes_order (drop i (fitted n a)) (drop i (fitted n b))
order_greater n a b i x y h ex ey more =
    let differ : (x == y) ≡ false = grind (arith, nat_tests) in
    let second : nat_lt x y ≡ false = grind (arith, nat_tests) in
    sym (order_step n a b i x y h ex ey ∙ rw (differ, second) refl)

pub order_goes_on : (n : ℕ) (a b : List ℕ) (i x y : ℕ) → i < n → x ≡ get_or a i 32 → y ≡ get_or b i 32 → y ≤ x → x ≤ y →
    bytes_order (drop (i + 1) (fitted n a)) (drop (i + 1) (fitted n b)) ≡ bytes_order (drop i (fitted n a)) (drop i (fitted n b))
order_goes_on n a b i x y h ex ey low high =
    let same : (x == y) ≡ true = grind (arith, nat_tests) in
    sym (order_step n a b i x y h ex ey ∙ rw same refl)

pub order_ends : (n : ℕ) (a b : List ℕ) (i : ℕ) → n ≤ i → bytes_order (drop i (fitted n a)) (drop i (fitted n b)) ≡ equal
order_ends n a b i h = ap (λ xs. bytes_order xs (drop i (fitted n b))) (drop_all i (fitted n a) (omega (arith, length-fitted n a)))

pub ruleset orders = (order_less, order_greater, order_goes_on, order_ends)

-- ---- digits

pub digit_or_space : (n v i : ℕ) → i < n → get_or (digit_text (last_digits n v)) i 32 ≡ 48 + digit_at (n - 1 - i) v
digit_or_space n v i h = digit_text_at n v i 32 h

pub digit_text_past : (n v i : ℕ) → n ≤ i → get_or (digit_text (last_digits n v)) i 32 ≡ 32
digit_text_past n v i h = get_or-eq_default (digit_text (last_digits n v)) 32 (omega (arith, length-digit_text n v))

pub ruleset digits = (length-digit_text, digit_or_space, digit_text_past)

pub ruleset weights = (ten_positive, ten_monotone)
