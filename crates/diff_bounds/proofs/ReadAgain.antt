-- Coefficients and words read back from words of 128 bits.
use Rattle.std.proofs.Common.{◌≡◌, ℕ, ◌+◌, ◌-◌, ◌*◌, ◌^◌, ◌<◌, ◌≤◌, ℤ, pos, List, length, get_or, sym, subst, to_z, of_z, arith}
use Rattle.std.specs.Prelude.{unsigned_abs}
use Rattle.std.specs.Int.{w128}
use Rattle.std.proofs.lemmas.Int.{ints, to_z-of_z, fits_signed_from_abs}
use Rattle.diff_bounds.specs.Matrix.{IsWord, IsMatrix}
use Rattle.diff_bounds.specs.FormSums.{AreCoefs, ArePair}

pub small_read : (z : ℤ) → unsigned_abs z < 10 ^ 37 → to_z w128 (of_z w128 z) ≡ z
small_read z h = to_z-of_z w128 z (fits_signed_from_abs w128 z (omega (arith, h)))

-- ---- words
word_size : (x : ℤ) → IsWord x → unsigned_abs x < 2 ^ 127
word_size x is = let low = is.low in let top = is.top in omega (arith, ints, low, top)

pub word_read : (x : ℤ) → IsWord x → to_z w128 (of_z w128 x) ≡ x
word_read x is = to_z-of_z w128 x (fits_signed_from_abs w128 x (word_size x is))

pub word_is : (size : ℕ) (m : List ℤ) (at : ℕ) → IsMatrix size m → at < (size + 1) * (size + 1) → IsWord (to_z w128 (of_z w128 (get_or m at (pos 0))))
word_is size m at is h =
    let word = is.words at (rw is.width h) in
    subst (λ (x : ℤ). IsWord x) (sym (word_read (get_or m at (pos 0)) word)) word

pub word_at_read : (size : ℕ) (m : List ℤ) (at : ℕ) → IsMatrix size m → at < (size + 1) * (size + 1) → to_z w128 (of_z w128 (get_or m at (pos 0))) ≡ get_or m at (pos 0)
word_at_read size m at is h = word_read (get_or m at (pos 0)) (is.words at (rw is.width h))

-- ---- coefficients
pub coef_within : (size place : ℕ) (coefs : List ℤ) → AreCoefs size coefs → 1 ≤ place → place ≤ size → place - 1 < length coefs
coef_within size place coefs are h k = let enough = are.enough in omega (arith, enough)

pub coef_read : (size place : ℕ) (coefs : List ℤ) → AreCoefs size coefs → 1 ≤ place → place ≤ size → to_z w128 (of_z w128 (get_or coefs (place - 1) (pos 0))) ≡ get_or coefs (place - 1) (pos 0)
coef_read size place coefs are h k = small_read (get_or coefs (place - 1) (pos 0)) (are.small (place - 1) (coef_within size place coefs are h k))

pub coef_small : (size place : ℕ) (coefs : List ℤ) → AreCoefs size coefs → 1 ≤ place → place ≤ size → unsigned_abs (to_z w128 (of_z w128 (get_or coefs (place - 1) (pos 0)))) < 10 ^ 37
coef_small size place coefs are h k =
    subst (λ (x : ℤ). unsigned_abs x < 10 ^ 37) (sym (coef_read size place coefs are h k)) (are.small (place - 1) (coef_within size place coefs are h k))

pub small_again : (z : ℤ) → unsigned_abs z < 10 ^ 37 → unsigned_abs (to_z w128 (of_z w128 z)) < 10 ^ 37
small_again z h = subst (λ (x : ℤ). unsigned_abs x < 10 ^ 37) (sym (small_read z h)) h

pub pair_again : (f g f2 g2 : ℤ) → f2 ≡ f → g2 ≡ g → ArePair f g → ArePair f2 g2
pair_again f g f2 g2 e k are =
    subst (λ (x : ℤ). ArePair x g2) (sym e) (subst (λ (y : ℤ). ArePair f y) (sym k) are)

-- ---- places
pub nine : (n : ℕ) → n ≤ 8 → n + 1 ≤ 9
nine n h = omega arith

pub below_next : (k n : ℕ) → k ≤ n → k < n + 1
below_next k n h = omega arith
