-- What bounds of forms are compared with: values of forms where the cells hold values, and other matrices.
use Rattle.std.specs.Prelude.{◌≡◌, ℕ, suc, ◌<◌, ◌≤◌, ℤ, pos, ◌≤ℤ◌, Option, Some, None}
use Rattle.interval_domain.specs.declared.bounds.Interval.{Interval}
use Rattle.diff_bounds.specs.declared.form.lin.Lin.{Lin}
use Rattle.diff_bounds.specs.Forms.{coef, dot, values}
use Rattle.diff_bounds.specs.Storages.{value_at}

-- a value, or 0 where there is none
abbrev pub worth : Option ℤ → ℤ
worth (Some x) = x
worth None = pos 0

-- by places, from 1 on
abbrev pub worths : (ℕ → Option ℤ) → ℕ → ℤ
worths cells k = worth (value_at cells k)

-- the coefficients times the values, added up over the places from 1 to n
abbrev pub total : (ℕ → ℤ) → (ℕ → ℤ) → ℕ → ℤ
total c v n = dot (λ k. c (suc k)) (λ k. v (suc k)) n

-- the numbers that a form can be where the cells hold these values
abbrev pub values_in : Lin → (ℕ → Option ℤ) → Interval
values_in form cells = values form (λ k. worths cells (suc k))

-- the form has coefficients for so many cells alone
pub record IsOver (size : ℕ) (form : Lin) : Type 0 where
  pub beyond : (k : ℕ) → size ≤ k → k < 8 → coef form k ≡ pos 0

abbrev pub HasValue : Option ℤ → Type 0
HasValue (Some x) = Unit {0}
HasValue None = ⊥

-- each word is at most the other
pub record AreLower (n : ℕ) (a b : ℕ → ℕ → ℤ) : Type 0 where
  pub words : (i j : ℕ) → i < n → j < n → a i j ≤ℤ b i j
