-- Matrices whose sums of two words are not cut, and what a closed one of them keeps.
use Rattle.std.specs.Prelude.{◌≢◌, ℕ, ◌*◌, ◌^◌, ◌<◌, List, ℤ, pos, neg_ℤ, ◌+ℤ◌, ◌≤ℤ◌, length, slice_index_or}
use Rattle.diff_bounds.specs.Matrix.{IsBound}

-- none, or a number of at most 4 * 10^36 in absolute value
pub record IsSettledWord (x : ℤ) : Type 0 where
  pub low : neg_ℤ (pos (4 * 10 ^ 36)) ≤ℤ x
  pub high : IsBound x → x ≤ℤ pos (4 * 10 ^ 36)

pub record IsSettled (m : List ℤ) : Type 0 where
  pub words : (k : ℕ) → k < length m → IsSettledWord (slice_index_or m k (pos 0))

-- Apart from one place no word is above the sum of two words over a third place. A sum with a none is none.
pub record IsTightBut (n at : ℕ) (w : ℕ → ℕ → ℤ) : Type 0 where
  pub triangle : (i j k : ℕ) → i < n → j < n → k < n → i ≢ at → j ≢ at → k ≢ at → IsBound (w i k) → IsBound (w k j) → w i j ≤ℤ (w i k +ℤ w k j)
