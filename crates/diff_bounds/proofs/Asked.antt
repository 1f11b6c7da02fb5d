-- What calls on matrices ask of sizes, places and words.
use Rattle.std.proofs.Common.{◌≡◌, ℕ, zero, suc, ◌+◌, ◌*◌, ◌^◌, ◌<◌, ◌≤◌, List, [], ◌∷◌, length, get_or, ℤ, refl, sym, subst, to_z, of_z, arith}
use Rattle.std.specs.Prelude.{unsigned_abs}
use Rattle.std.specs.Int.{w128}
use Rattle.std.specs.List.{AllByRecursion}
use Rattle.std.proofs.lemmas.Int.{ints, to_z-of_z, fits_signed_from_abs}
use Rattle.std.proofs.lemmas.Nat.{mul-le}
use Rattle.diff_bounds.specs.RowSums.{IsPair}

-- ---- sizes and places
pub nine : (n : ℕ) → n ≤ 8 → n + 1 ≤ 9
nine n h = omega arith

pub below_next : (k n : ℕ) → k ≤ n → k < n + 1
below_next k n h = omega arith

pub below_nine : (k n : ℕ) → k < n + 1 → n ≤ 8 → k < 9
below_nine k n h g = omega arith

-- a place of a matrix with at most nine rows
pub below_square : (at n : ℕ) → at < n * n → n ≤ 9 → at < 81
below_square at n h g = omega (arith, mul-le n n 9 9 g g)

-- ---- lists of one number
all_same : (x d : ℤ) (xs : List ℤ) → AllByRecursion (λ y. y ≡ x) xs → (k : ℕ) → k < length xs → get_or xs k d ≡ x
all_same x d [] all k h = absurd (omega (arith, h))
all_same x d (y ∷ ys) all zero h = all.0
all_same x d (y ∷ ys) all (suc k) h = all_same x d ys all.1 k (omega (arith, h))

pub nine_same : (x d : ℤ) (k : ℕ) → k < 9 → get_or (x ∷ x ∷ x ∷ x ∷ x ∷ x ∷ x ∷ x ∷ x ∷ []) k d ≡ x
nine_same x d k h =
    all_same x d (x ∷ x ∷ x ∷ x ∷ x ∷ x ∷ x ∷ x ∷ x ∷ []) (refl, (refl, (refl, (refl, (refl, (refl, (refl, (refl, (refl, tt))))))))) k h

-- ---- sums read back from words
pair_size : (x : ℤ) → IsPair x → unsigned_abs x < 2 ^ 127
pair_size x is = let low = is.low in let top = is.top in omega (arith, ints, low, top)

pub pair_again : (x : ℤ) → IsPair x → IsPair (to_z w128 (of_z w128 x))
pair_again x is = subst (λ (z : ℤ). IsPair z) (sym (to_z-of_z w128 x (fits_signed_from_abs w128 x (pair_size x is)))) is
