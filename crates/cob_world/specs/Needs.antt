-- What typing gives of operands.
use Rattle.std.specs.Prelude.{◌≡◌, true, []}
use Rattle.cob_data.specs.declared.layout.Layout.{Layout}
use Rattle.cob_data.specs.declared.layout.Sender.{Sender}
use Rattle.cob_runs.specs.Deciding.{is_number_end}
use Rattle.cob_calc.specs.Comparing.{IsShortEnd}

-- a numeric item or a number, as the count of TIMES and the step of VARYING are
pub record IsNumber (l : Layout) (x : Sender) : Type 0 where
  pub number : is_number_end l [] x ≡ true
  pub literal : IsShortEnd x
