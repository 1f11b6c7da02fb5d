-- What a form shows of a value, and the orders that a relation leaves.
use Rattle.std.specs.Prelude.{◌≡◌, ◌≢◌, ℕ, suc, ◌+◌, ◌≤◌, Bool, true, List, ℤ, pos, ◌<ℤ◌, ◌≤ℤ◌, Option}
use Rattle.dec_num.specs.declared.types.Scaled.{Scaled}
use Rattle.diff_bounds.specs.declared.form.lin.Lin.{Lin}
use Rattle.diff_bounds.specs.Forms.{coef, dot}
use Rattle.diff_bounds.specs.Matrix.{word}
use Rattle.diff_bounds.specs.Values.{worths, IsOver}
use Rattle.diff_bounds.specs.Assigned.{AreOperands}
use Rattle.diff_bounds.specs.Scales.{Spans}

-- the decimal is one of the numbers that a form over the pack's cells can be, in units of so many decimals
pub record IsShown (size : ℕ) (cells : ℕ → Option ℤ) (form : Lin) (d : Scaled) (f : ℕ) : Type 0 where
  pub over : IsOver size form
  pub operands : AreOperands size cells form
  pub spans : Spans (dot (coef form) (λ k. worths cells (suc k)) 8) form.constant d f

-- whether the difference of two sides may be below 0, 0, or above 0, as it is
pub record IsLeft (may_be_below may_be_even may_be_above : Bool) (d : Scaled) : Type 0 where
  pub below : d.units <ℤ pos 0 → may_be_below ≡ true
  pub even : d.units ≡ pos 0 → may_be_even ≡ true
  pub above : pos 0 <ℤ d.units → may_be_above ≡ true

-- off the diagonal no word is above the other matrix's
pub record AreLowerOff (size : ℕ) (a b : List ℤ) : Type 0 where
  pub words : (i j : ℕ) → i ≤ size → j ≤ size → i ≢ j → word (size + 1) a i j ≤ℤ word (size + 1) b i j
