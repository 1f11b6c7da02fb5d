-- Sums on the way to the closure of a matrix of which one row and its column have changed. They are kept whole,
-- and a number that is greater than each sum of two numbers stands for no sum.
use Rattle.std.specs.Prelude.{◌≡◌, ◌⊎◌, ℕ, ◌*◌, ◌^◌, ◌<◌, List, ℤ, pos, neg_ℤ, ◌+ℤ◌, ◌≤ℤ◌, ◌<ℤ◌, slice_index_or}
use Rattle.diff_bounds.specs.Matrix.{word, IsBound}
use Rattle.diff_bounds.specs.Paths.{cut_of}

abbrev pub no_sum : ℤ
no_sum = pos (5 * 10 ^ 37)

abbrev pub IsSum : ℤ → Type 0
IsSum x = x <ℤ no_sum

-- no sum, or one of two words
pub record IsPair (x : ℤ) : Type 0 where
  pub low : neg_ℤ (pos (2 * 10 ^ 37)) ≤ℤ x
  pub high : IsSum x → x ≤ℤ pos (2 * 10 ^ 37)
  pub top : x ≤ℤ no_sum

-- the lesser of the best sum so far and the sum of two words
pub record IsBetter (best first second x : ℤ) : Type 0 where
  pub kept : x ≤ℤ best
  pub lowered : IsBound first → IsBound second → x ≤ℤ (first +ℤ second)
  pub one : (x ≡ best) ⊎ (IsBound first × IsBound second × (x ≡ first +ℤ second))

-- two words, over one of the first places, that add up to x
abbrev pub IsSumOver : ℕ → (ℕ → ℕ → ℤ) → ℕ → ℕ → ℤ → Type 0
IsSumOver count w i j x = (k : ℕ) × (k < count) × IsBound (w i k) × IsBound (w k j) × (x ≡ w i k +ℤ w k j)

-- the least sum of two words over one of the first places
pub record IsLeastOver (count : ℕ) (w : ℕ → ℕ → ℤ) (i j : ℕ) (x : ℤ) : Type 0 where
  pub least : (k : ℕ) → k < count → IsBound (w i k) → IsBound (w k j) → x ≤ℤ (w i k +ℤ w k j)
  pub one : IsSum x → IsSumOver count w i j x
  pub pair : IsPair x

-- the least sums from each place to one of them
pub record AreInto (n at : ℕ) (w : ℕ → ℕ → ℤ) (into : List ℤ) : Type 0 where
  pub sums : (i : ℕ) → i < n → IsLeastOver n w i at (slice_index_or into i (pos 0))

-- the least sums from one place to each
pub record AreFrom (n at : ℕ) (w : ℕ → ℕ → ℤ) (from : List ℤ) : Type 0 where
  pub sums : (j : ℕ) → j < n → IsLeastOver n w at j (slice_index_or from j (pos 0))

-- a word and a sum that add up to less than 0
abbrev pub IsNegative : ℤ → ℤ → Type 0
IsNegative word sum = IsBound word × IsSum sum × ((word +ℤ sum) <ℤ pos 0)

-- the round trip from the place by way of v is negative
abbrev pub IsNegativeAt : ℕ → (ℕ → ℕ → ℤ) → List ℤ → ℕ → Type 0
IsNegativeAt at w into v = IsNegative (w at v) (slice_index_or into v (pos 0))

-- the lesser of the word and the cut of two sums
pub record IsLowered (word first second x : ℤ) : Type 0 where
  pub kept : x ≤ℤ word
  pub lowered : IsSum first → IsSum second → x ≤ℤ cut_of (first +ℤ second)
  pub one : (x ≡ word) ⊎ (IsSum first × IsSum second × (x ≡ cut_of (first +ℤ second)))

-- each word is lowered to the way over the place
pub record AreLowered (n : ℕ) (into from : List ℤ) (old new : ℕ → ℕ → ℤ) : Type 0 where
  pub words : (i j : ℕ) → i < n → j < n → IsLowered (old i j) (slice_index_or into i (pos 0)) (slice_index_or from j (pos 0)) (new i j)
