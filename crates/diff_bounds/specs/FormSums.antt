-- How the code keeps numbers that may be none: the last number of 128 bits stands for none.
use Rattle.std.specs.Prelude.{◌≡◌, ℕ, ◌*◌, ◌^◌, ◌<◌, ◌≤◌, if◌then◌else◌, List, ℤ, pos, neg_ℤ, ◌≤ℤ◌, ◌<ℤ◌, int_lt, Option, Some, None, slice_index_or, length, unsigned_abs}
use Rattle.diff_bounds.specs.Sums.{no_path, IsSum}

abbrev pub sum_of : ℤ → Option ℤ
sum_of x = if int_lt x no_path then Some x else None

-- none, or a number within n * 10^37
pub record IsWithin (n : ℕ) (x : ℤ) : Type 0 where
  pub low : neg_ℤ (pos (n * 10 ^ 37)) ≤ℤ x
  pub high : IsSum x → x ≤ℤ pos (n * 10 ^ 37)
  pub top : x ≤ℤ no_path

-- a coefficient below 10^37 in absolute value for each place of a matrix
pub record AreCoefs (size : ℕ) (coefs : List ℤ) : Type 0 where
  pub enough : size ≤ length coefs
  pub small : (k : ℕ) → k < length coefs → unsigned_abs (slice_index_or coefs k (pos 0)) < 10 ^ 37

-- coefficients of two values whose difference counts
pub record ArePair (factor other : ℤ) : Type 0 where
  pub positive : pos 1 ≤ℤ factor
  pub opposite : other ≡ neg_ℤ factor
