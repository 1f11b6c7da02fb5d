-- Forms whose coefficients are changed at one or two places.
use Rattle.std.specs.Prelude.{◌≡◌, ℕ, ◌-◌, ◌<◌, ◌≤◌, ℤ, length, slice_set}
use Rattle.diff_bounds.specs.declared.form.lin.Lin.{Lin}
use Rattle.diff_bounds.specs.Forms.{IsSmallForm}
use Rattle.diff_bounds.specs.Upper.{coef_at, without}
use Rattle.diff_bounds.specs.Assigned.{less_place}

-- the coefficient of one place is x
pub record IsSet (form changed : Lin) (place : ℕ) (x : ℤ) : Type 0 where
  pub width : length form.coefs ≡ 8
  pub coefs_ : changed.coefs ≡ slice_set form.coefs (place - 1) x
  pub constant : changed.constant ≡ form.constant

-- these coefficients, and the same constant
pub record IsChanged (coefs : ℕ → ℤ) (form changed : Lin) : Type 0 where
  pub coefs_ : (k : ℕ) → 0 < k → k ≤ 8 → coef_at changed.coefs k ≡ coefs k
  pub constant : changed.constant ≡ form.constant
  pub small : IsSmallForm changed

abbrev pub IsLess : ℕ → Lin → Lin → Type 0
IsLess place form less = IsChanged (less_place place (coef_at form.coefs)) form less

abbrev pub IsWithout : ℕ → ℕ → Lin → Lin → Type 0
IsWithout first second form rest = IsChanged (without first second (coef_at form.coefs)) form rest
