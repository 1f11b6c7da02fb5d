-- Sums and multiples of linear forms, number by number, and of the numbers that they stand for.
use Rattle.std.specs.Prelude.{◌≡◌, ℕ, ℤ, ◌+ℤ◌, ◌*ℤ◌, ◌≤ℤ◌}
use Rattle.interval_domain.specs.declared.bounds.Interval.{Interval}
use Rattle.interval_domain.specs.Bounds.{Holds}
use Rattle.interval_domain.specs.Corners.{interval, span}
use Rattle.diff_bounds.specs.declared.form.lin.Lin.{Lin}
use Rattle.diff_bounds.specs.Forms.{coef, form_of}

abbrev pub added_coefs : Lin → Lin → ℕ → ℤ
added_coefs a b k = coef a k +ℤ coef b k

abbrev pub added_constant : Interval → Interval → Interval
added_constant a b = interval (a.low +ℤ b.low) (a.high +ℤ b.high)

abbrev pub sum_of : Lin → Lin → Lin
sum_of a b = form_of (added_coefs a b) (added_constant a.constant b.constant)

abbrev pub scaled_coefs : Lin → ℤ → ℕ → ℤ
scaled_coefs a by k = coef a k *ℤ by

-- a factor below 0 exchanges the ends
abbrev pub scaled_constant : Interval → ℤ → Interval
scaled_constant a by = span (a.low *ℤ by) (a.high *ℤ by)

abbrev pub multiple_of : Lin → ℤ → Lin
multiple_of a by = form_of (scaled_coefs a by) (scaled_constant a.constant by)

-- some number of the interval, times the factor
abbrev pub IsMultiple : Interval → ℤ → ℤ → Type 0
IsMultiple i by z = (x : ℤ) × Holds i x × (z ≡ x *ℤ by)

-- the numbers of the interval are those of which R is true
pub record IsExactly (R : ℤ → Type 0) (i : Interval) : Type 0 where
  pub holds : (z : ℤ) → R z → Holds i z
  pub only : (z : ℤ) → Holds i z → R z

-- the coefficients of b, with a constant that lies in the constant of b
pub record IsNarrower (a b : Lin) : Type 0 where
  pub coefs : a.coefs ≡ b.coefs
  pub low : b.constant.low ≤ℤ a.constant.low
  pub ordered : a.constant.low ≤ℤ a.constant.high
  pub high : a.constant.high ≤ℤ b.constant.high
