-- Closed matrices whose sums of two words aren't cut, and words that stay.
use Rattle.std.specs.Prelude.{◌≡◌, ◌≢◌, ℕ, ◌+◌, ◌≤◌, List, ℤ}
use Rattle.diff_bounds.specs.Matrix.{word}
use Rattle.diff_bounds.specs.Settled.{IsSettled, IsTightBut}

-- Where the matrix is settled, no word is above the sum of two words over a third place.
pub record IsTightIfSettled (size : ℕ) (m : List ℤ) : Type 0 where
  pub tight : IsSettled m → (at : ℕ) → IsTightBut (size + 1) at (word (size + 1) m)

-- the words but those of a row and of its column are the same
pub record AreSameBut (size at : ℕ) (old new : ℕ → ℕ → ℤ) : Type 0 where
  pub same : (i j : ℕ) → i ≤ size → j ≤ size → i ≢ at → j ≢ at → new i j ≡ old i j
