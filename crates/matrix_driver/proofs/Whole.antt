-- Forms over all eight cells, and matrices of which one row is assigned.
use Rattle.std.proofs.Common.{◌≢◌, ℕ, ◌+◌, ◌<◌, ℤ, arith}
use Rattle.diff_bounds.specs.declared.form.lin.Lin.{Lin}
use Rattle.diff_bounds.specs.Values.{IsOver}
use Rattle.diff_bounds.specs.Assigned.{AreAssigned}
use Rattle.diff_bounds.specs.Settled.{IsTightBut}
use Rattle.diff_bounds.proofs.Tight.{tight_beside}

pub over_all : (form : Lin) → IsOver 8 form
over_all form = record { beyond = λ k h l. absurd (omega arith) }

pub tight_behind : (to : ℕ) (form : Lin) (old new : ℕ → ℕ → ℤ) → AreAssigned 8 old to form new → IsTightBut 9 to old → IsTightBut 9 to new
tight_behind to form old new are tight = tight_beside 9 to old new (λ i j h g ne apart. are.others i j (omega arith) (omega arith) ne apart) tight
