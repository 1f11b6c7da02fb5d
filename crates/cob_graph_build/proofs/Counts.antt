-- How many numbers below a bound pass a test.
use Rattle.std.proofs.Common.{◌≡◌, ℕ, zero, suc, ◌+◌, ◌<◌, ◌≤◌, Bool, true, false, ⊎_elim, refl, ap, subst, arith}
use Rattle.std.proofs.lemmas.Bool.{cases_lt}

abbrev pub one_for : Bool → ℕ
one_for true = 1
one_for false = 0

abbrev pub count_below : (ℕ → Bool) → ℕ → ℕ
count_below f zero = 0
count_below f (suc n) = one_for (f n) + count_below f n

one_le : (a b : Bool) → (a ≡ true → b ≡ true) → one_for a ≤ one_for b
one_le true b h = let one : one_for b ≡ 1 = ap one_for (h refl) in omega (arith, one)
one_le false b h = omega arith

pub count_most : (f : ℕ → Bool) (n : ℕ) → count_below f n ≤ n
count_most f zero = omega arith
count_most f (suc n) =
    let one : one_for (f n) ≤ 1 = one_le (f n) true (λ e. refl) in
    let rest = count_most f n in
    let all : one_for (f n) + count_below f n ≤ suc n = omega (arith, one, rest) in
    all

module _ (f g : ℕ → Bool) where
  pub count_le : (n : ℕ) → ((j : ℕ) → j < n → f j ≡ true → g j ≡ true) → count_below f n ≤ count_below g n
  count_le zero more = omega arith
  count_le (suc n) more =
      let one = one_le (f n) (g n) (more n (omega arith)) in
      let rest = count_le n (λ j h. more j (omega (arith, h))) in
      let all : one_for (f n) + count_below f n ≤ one_for (g n) + count_below g n = omega (arith, one, rest) in
      all

  -- one of them passes the second test alone
  pub count_less : (n m : ℕ) → ((j : ℕ) → j < n → f j ≡ true → g j ≡ true) → m < n → f m ≡ false → g m ≡ true →
      count_below f n < count_below g n
  count_less zero m more below fails passes = absurd (omega (arith, below))
  count_less (suc n) m more below fails passes =
      ⊎_elim
      (λ (h : m < n).
      let one = one_le (f n) (g n) (more n (omega arith)) in
      let rest = count_less n m (λ j l. more j (omega (arith, l))) h fails passes in
      let all : one_for (f n) + count_below f n < one_for (g n) + count_below g n = omega (arith, one, rest) in
      all)
      (λ (h : n ≤ m).
      let same : m ≡ n = omega (arith, h, below) in
      let none : one_for (f n) ≡ 0 = ap one_for (subst (λ i. f i ≡ false) same fails) in
      let one : one_for (g n) ≡ 1 = ap one_for (subst (λ i. g i ≡ true) same passes) in
      let rest = count_le n (λ j l. more j (omega (arith, l))) in
      let all : one_for (f n) + count_below f n < one_for (g n) + count_below g n =
      omega (arith, none, one, rest) in
      all)
      (cases_lt m n)
