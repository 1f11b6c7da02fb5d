-- Powers of ten.
use Rattle.std.proofs.Common.{◌≡◌, ℕ, ◌+◌, ◌-◌, ◌*◌, ◌^◌, ◌<◌, ◌≤◌, ap, ◌∙◌, inl, inr, arith}
use Rattle.std.proofs.lemmas.Bool.{cases_lt}
use Rattle.std.proofs.Math.Nat.{one-le-pow, pow-le-pow_right, le-mul_of_pos_right}
use Rattle.std.proofs.lemmas.Nat.{pow-add}

pub ten_positive : (k : ℕ) → 1 ≤ 10 ^ k
ten_positive k = one-le-pow k 10 (omega arith)

pub ten_monotone : (j k : ℕ) → j ≤ k → 10 ^ j ≤ 10 ^ k
ten_monotone j k h = pow-le-pow_right (omega arith) h

-- a power up to the 38th fits an `i128`
pub ten_fits : (k : ℕ) → k ≤ 38 → 10 ^ k < 2 ^ 127
ten_fits k h = omega (arith, ten_monotone k 38 h)

pub ten-add : (j k : ℕ) → 10 ^ (j + k) ≡ 10 ^ j * 10 ^ k
ten-add j k = pow-add 10 j k

-- 10 ^ k is 10 ^ j times the power of the difference
pub ten_split : (j k : ℕ) → j ≤ k → 10 ^ k ≡ 10 ^ j * 10 ^ (k - j)
ten_split j k h = let e : k ≡ j + (k - j) = omega arith in ap (λ n. 10 ^ n) e ∙ ten-add j (k - j)

-- a product below 10 ^ m has no m zeros at its end
pub exponent_below : (n k m : ℕ) → 0 < n → n * 10 ^ k < 10 ^ m → k < m
exponent_below n k m h p =
    elim (cases_lt k m) as (λ _. k < m) [ inl q ↦ q | inr q ↦ absurd (omega (arith, ten_monotone m k q, le-mul_of_pos_right (10 ^ k) h)) ]
