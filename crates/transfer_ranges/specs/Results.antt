-- What results are, as sets of numbers, and what an interval says of them.
use Rattle.std.specs.Prelude.{◌≡◌, ◌≤◌, ◌^◌, ℕ, ℤ, ◌≤ℤ◌, unsigned_abs, Option, Some, None}
use Rattle.interval_domain.specs.declared.bounds.Interval.{Interval}
use Rattle.interval_domain.specs.Bounds.{Holds, IsLeast}
use Rattle.transfer_ranges.specs.declared.amounts.Receiver.{Receiver}
use Rattle.transfer_ranges.specs.Receivers.{HasRoomFor, kept_units}

-- the least interval of the numbers of which R is true; nothing where it is true of none
abbrev pub IsLeastIfAny : (ℤ → Type 0) → Option Interval → Type 0
IsLeastIfAny R None = (z : ℤ) → R z → ⊥
IsLeastIfAny R (Some i) = IsLeast R i

-- the numbers of both
abbrev pub IsInBoth : Interval → Interval → ℤ → Type 0
IsInBoth a b z = Holds a z × Holds b z

-- numbers of the interval that so many digits hold
abbrev pub IsHeld : ℕ → Interval → ℤ → Type 0
IsHeld digits i z = Holds i z × HasRoomFor digits z

-- a receiver gets this for some number of the interval that it has room for
abbrev pub IsKept : Receiver → Interval → ℤ → Type 0
IsKept r i z = (w : ℤ) × IsHeld r.digits i w × (z ≡ kept_units r.signed w)

-- some number of the interval has more digits
abbrev pub IsExceeded : ℕ → Interval → Type 0
IsExceeded digits i = (z : ℤ) × Holds i z × (10 ^ digits ≤ unsigned_abs z)

-- ---- the order of intervals

abbrev pub IsInside : Interval → Interval → Type 0
IsInside a b = (b.low ≤ℤ a.low) × (a.high ≤ℤ b.high)

-- nothing lies inside all
abbrev pub IsInsideIfAny : Option Interval → Option Interval → Type 0
IsInsideIfAny None b = Unit {0}
IsInsideIfAny (Some a) None = ⊥
IsInsideIfAny (Some a) (Some b) = IsInside a b
