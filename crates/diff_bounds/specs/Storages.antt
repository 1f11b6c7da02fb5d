-- What a matrix says of the values of its cells.
use Rattle.std.specs.Prelude.{◌≢◌, ℕ, zero, suc, ◌<◌, ℤ, pos, ◌-ℤ◌, ◌≤ℤ◌, Option, Some, None}
use Rattle.diff_bounds.specs.Matrix.{IsBound}

-- The value at a place, where each cell, by its place from 1, has a value or none.
abbrev pub value_at : (ℕ → Option ℤ) → ℕ → Option ℤ
value_at cells zero = Some (pos 0)
value_at cells (suc cell) = cells (suc cell)

-- two values are there, and differ by at most so much
abbrev pub DifferBy : ℤ → Option ℤ → Option ℤ → Type 0
DifferBy c (Some x) (Some y) = (x -ℤ y) ≤ℤ c
DifferBy c (Some x) None = ⊥
DifferBy c None y = ⊥

-- each number off the diagonal bounds the difference of the values at its row and its column
pub record StandsIn (n : ℕ) (w : ℕ → ℕ → ℤ) (cells : ℕ → Option ℤ) : Type 0 where
  pub bounded : (i j : ℕ) → i < n → j < n → i ≢ j → IsBound (w i j) → DifferBy (w i j) (value_at cells i) (value_at cells j)
