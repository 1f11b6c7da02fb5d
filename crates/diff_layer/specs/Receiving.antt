-- What a receiver's cell gets, and what a matrix shows of forms that may be missing.
use Rattle.std.specs.Prelude.{ℕ, ◌||◌, Bool, List, ℤ, Option, Some, None}
use Rattle.dec_num.specs.declared.types.Mode.{Mode}
use Rattle.cob_program.specs.Values.{◌>>=◌}
use Rattle.diff_bounds.specs.declared.form.lin.Lin.{Lin}
use Rattle.diff_bounds.specs.Upper.{upper_of}
use Rattle.transfer_ranges.specs.declared.amounts.AmountRange.{AmountRange}
use Rattle.transfer_ranges.specs.declared.amounts.Receiver.{Receiver}
use Rattle.diff_steps.specs.Matrices.{forgotten}
use Rattle.diff_steps.specs.Stores.{known_of_amount, upper_negated, form_stored}
use Rattle.diff_steps.specs.Clearing.{is_negative}

-- a form of an amount that is stored at a place, in units of so many of the pack's
abbrev pub stored_at : ℕ → ℕ → Receiver → Mode → ℕ → Option AmountRange → Option Lin → List ℤ → List ℤ
stored_at size to r mode unit amount None m = forgotten size to m
stored_at size to r mode unit amount (Some form) m =
    form_stored size to r.signed mode unit (known_of_amount size m form r.scale amount) form m

-- the bound that a matrix shows of a form, and of the negated one
abbrev pub upper_if : ℕ → List ℤ → Option Lin → Option ℤ
upper_if size m form = form >>= upper_of size m

abbrev pub upper_negated_if : ℕ → List ℤ → Option Lin → Option ℤ
upper_negated_if size m form = form >>= upper_negated size m

-- the matrix shows that the form isn't 0
abbrev pub is_apart : ℕ → List ℤ → Option Lin → Bool
is_apart size m form = is_negative (upper_if size m form) || is_negative (upper_negated_if size m form)
