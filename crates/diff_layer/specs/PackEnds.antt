-- Numbers that a word can be.
use Rattle.std.specs.Prelude.{ℤ, neg_ℤ, ◌≤ℤ◌}
use Rattle.diff_bounds.specs.Matrix.{largest}

-- the number is at most 10^37 in absolute value
pub record IsNumber (z : ℤ) : Type 0 where
  pub low : neg_ℤ largest ≤ℤ z
  pub high : z ≤ℤ largest
