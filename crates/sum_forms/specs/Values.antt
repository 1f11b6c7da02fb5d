-- What forms of sums say of the sums' values.
use Rattle.std.specs.Prelude.{◌≡◌, ◌<◌, ◌≤◌, ℕ, ◌^◌, ℤ, pos, ◌*ℤ◌, ◌≤ℤ◌, Option, Some, IfSome, IsSomeAnd}
use Rattle.dec_num.specs.declared.types.Scaled.{Scaled}
use Rattle.diff_bounds.specs.declared.form.lin.Lin.{Lin}
use Rattle.diff_bounds.specs.Forms.{coef, dot, IsSmallForm}
use Rattle.diff_bounds.specs.Results.{IsNarrower}
use Rattle.sum_ranges.specs.declared.ranged.Ranged.{Ranged}
use Rattle.sum_ranges.specs.Ranged.{IsIn}
use Rattle.diff_bounds.specs.Scales.{Spans}

-- The decimal is one of the numbers that the form can be where the cells have these values, in units of so many decimals.
abbrev pub Shows : ℕ → (ℕ → ℤ) → Lin → Scaled → Type 0
Shows f cells form v = Spans (dot (coef form) cells 8) form.constant v f

-- Each item's number lies in its range, and that of an item that has a cell in the pack is the cell's value.
pub record AreHeld (f : ℕ) (cell : ℕ → Option ℕ) (range : ℕ → Ranged) (worth : ℕ → Scaled) (cells : ℕ → ℤ) : Type 0 where
  pub held : (place : ℕ) → IsIn (worth place) (range place)
  pub values : (place k : ℕ) → cell place ≡ Some k → cells k *ℤ pos (10 ^ (worth place).scale) ≡ (worth place).units *ℤ pos (10 ^ f)
  pub few : (place k : ℕ) → cell place ≡ Some k → k < 8

-- Where there is a form of what is wider, there is one of what is narrower, with the same coefficients and a constant
-- within the other one's.
abbrev pub IsNarrowerIfAny : Option Lin → Option Lin → Type 0
IsNarrowerIfAny narrow wide = IfSome wide (λ b. IsSomeAnd narrow (λ a. IsNarrower a b))

-- the form has coefficients for so many cells alone
abbrev pub IsWithin : ℕ → Lin → Type 0
IsWithin size form = (k : ℕ) → size ≤ k → k < 8 → coef form k ≡ pos 0

-- a form whose numbers are small, and whose constant has a number
pub record IsForm (form : Lin) : Type 0 where
  pub small : IsSmallForm form
  pub ordered : form.constant.low ≤ℤ form.constant.high
