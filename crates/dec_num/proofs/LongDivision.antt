-- The steps of a long division.
use Rattle.std.proofs.Common.{◌≡◌, ℕ, ◌+◌, ◌-◌, ◌*◌, ◌/◌, ◌%◌, ◌^◌, ◌<◌, ◌≤◌, refl, ap, ◌∙◌, sym, arith}
use Rattle.std.proofs.Math.Nat.{div-add-mod', div-div-eq-div-mul, mul-div-mul_left, add-mul-div_right, le_refl, le_trans, mul_assoc}
use Rattle.std.proofs.lemmas.Nat.{le-div, mul-le, div_below}
use Rattle.dec_num.specs.declared.types.Mode.{Mode}
use Rattle.dec_num.specs.Exact.{rounded}
use Rattle.dec_num.proofs.Powers.{ten_positive, ten_monotone, ten-add, ten_split}
use Rattle.dec_num.proofs.Near.{cut_below, rounded_below}

-- some further digits
pub digits_more : (n d q r place digits : ℕ) → q * d + r ≡ n * 10 ^ place → (q * 10 ^ digits + r * 10 ^ digits / d) * d + r * 10 ^ digits % d ≡ n * 10 ^ (place + digits)
digits_more n d q r place digits e =
    omega (arith, ap (λ k. k * 10 ^ digits) e, div-add-mod' (r * 10 ^ digits) d, ap (λ k. n * k) (ten-add place digits))

-- a short quotient stays below 10 ^ 37
pub digits_below : (d q r digits : ℕ) → r < d → digits ≤ 37 → q < 10 ^ (37 - digits) → q * 10 ^ digits + r * 10 ^ digits / d < 10 ^ 37
digits_below d q r digits h k l =
    let f : 1 ≤ 10 ^ digits = ten_positive digits in
    let g : r * 10 ^ digits < 10 ^ digits * d = omega (arith, mul-le (r + 1) (10 ^ digits) d (10 ^ digits) (omega arith) (le_refl (10 ^ digits))) in
    omega
    (arith, div_below (r * 10 ^ digits) d (10 ^ digits) (omega arith) g, mul-le (q + 1) (10 ^ digits) (10 ^ (37 - digits)) (10 ^ digits) (omega arith) (le_refl (10 ^ digits)), ten_split digits 37 k)

-- a long one passes it
pub digits_over : (mode : Mode) (n d q r place digits up : ℕ) → 0 < d → q * d + r ≡ n * 10 ^ place → place + digits ≤ up → digits ≤ 37 → 10 ^ (37 - digits) ≤ q → 10 ^ 37 ≤ rounded mode (n * 10 ^ up) d
digits_over mode n d q r place digits up h e k l m =
    let further : 10 ^ digits ≤ 10 ^ (up - place) = ten_monotone digits (up - place) (omega arith) in
    let long : 10 ^ 37 ≤ q * 10 ^ (up - place) =
    omega (arith, mul-le (10 ^ (37 - digits)) (10 ^ digits) q (10 ^ (up - place)) m further, ten_split digits 37 l) in
    let whole : n * 10 ^ up ≡ (q * d + r) * 10 ^ (up - place) =
    ap (λ k. n * k) (ten_split place up (omega arith)) ∙ sym (mul_assoc n (10 ^ place) (10 ^ (up - place))) ∙ ap (λ k. k * 10 ^ (up - place)) (sym e) in
    le_trans
    (le-div (10 ^ 37) (n * 10 ^ up) d h (omega (arith, whole, mul-le (10 ^ 37) d (q * 10 ^ (up - place)) d long (le_refl d))))
    (cut_below mode (n * 10 ^ up) d h)

pub narrowed_cut : (n d k : ℕ) → n / 10 ^ k / d ≡ n / (d * 10 ^ k)
narrowed_cut n d k = div-div-eq-div-mul n (10 ^ k) d ∙ ap (λ b. n / b) (omega arith)

nearest_by_half : (n d half ten : ℕ) → 0 < half → ten ≡ 2 * half → (n / half + d) / (2 * d) ≡ (2 * n + d * ten) / (2 * (d * ten))
nearest_by_half n d half ten h e =
    let f : 2 * n + d * ten ≡ 2 * (n + d * half) = omega (arith, ap (λ k. d * k) e) in
    let g : 2 * (d * ten) ≡ 2 * (half * (2 * d)) = omega (arith, ap (λ k. d * k) e) in
    rw (f, g, mul-div-mul_left (n + d * half) (half * (2 * d)) two_positive, ← div-div-eq-div-mul (n + d * half) half (2 * d), add-mul-div_right n d h) refl
  where
    two_positive : 0 < 2
    two_positive = omega arith

pub narrowed_nearest : (n d k : ℕ) → 1 ≤ k → (n / (5 * 10 ^ (k - 1)) + d) / (2 * d) ≡ (2 * n + d * 10 ^ k) / (2 * (d * 10 ^ k))
narrowed_nearest n d k h =
    nearest_by_half n d (5 * 10 ^ (k - 1)) (10 ^ k) (omega (arith, ten_positive (k - 1))) (omega (arith, ten_split 1 k h))

-- ---- what the calls need
pub ruleset widening = (digits_more, digits_below, ten_monotone)

pub ruleset narrowing = (narrowed_cut, narrowed_nearest, rounded_below, ten_positive, ten_monotone)
