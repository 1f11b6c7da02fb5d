-- Forms over the cells of a pack.
use Rattle.std.specs.Prelude.{ℕ, ◌≤ℤ◌}
use Rattle.diff_bounds.specs.declared.form.lin.Lin.{Lin}
use Rattle.diff_bounds.specs.Forms.{IsSmallForm}
use Rattle.diff_bounds.specs.Values.{IsOver}

-- A form over the cells of a pack of so many whose numbers are small, and whose constant has a number.
pub record IsFormOf (size : ℕ) (form : Lin) : Type 0 where
  pub small : IsSmallForm form
  pub ordered : form.constant.low ≤ℤ form.constant.high
  pub over : IsOver size form
