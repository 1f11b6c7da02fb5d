-- What is left of a matrix once a cell of its pack is forgotten.
use Rattle.std.specs.Prelude.{◌≡◌, ◌≢◌, ℕ, ◌≤◌, ℤ, Option}
use Rattle.diff_bounds.specs.Matrix.{none}

-- No word says anything of the place. The others are as they were.
pub record AreForgotten (size : ℕ) (w : ℕ → ℕ → ℤ) (at : ℕ) (u : ℕ → ℕ → ℤ) : Type 0 where
  pub row : (j : ℕ) → j ≤ size → j ≢ at → u at j ≡ none
  pub column : (i : ℕ) → i ≤ size → i ≢ at → u i at ≡ none
  pub others : (i j : ℕ) → i ≤ size → j ≤ size → i ≢ at → j ≢ at → u i j ≡ w i j

-- the same values but at one place, where there is any value or none
pub record AgreeBut (at : ℕ) (cells other : ℕ → Option ℤ) : Type 0 where
  pub same : (k : ℕ) → k ≢ at → other k ≡ cells k
