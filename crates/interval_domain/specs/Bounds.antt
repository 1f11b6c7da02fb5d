-- Intervals of whole numbers.
use Rattle.std.specs.Prelude.{◌^◌, ◌<◌, ℤ, ◌≤ℤ◌, unsigned_abs}
use Rattle.interval_domain.specs.declared.bounds.Interval.{Interval}

-- the numbers of the interval
abbrev pub Holds : Interval → ℤ → Type 0
Holds i z = (i.low ≤ℤ z) × (z ≤ℤ i.high)

abbrev pub IsSmall : ℤ → Type 0
IsSmall z = unsigned_abs z < 10 ^ 37

-- an interval that holds a number, and whose ends are small
pub record IsInterval (i : Interval) : Type 0 where
  pub ordered : i.low ≤ℤ i.high
  pub low : IsSmall i.low
  pub high : IsSmall i.high

-- the least interval that holds every number of which R is true
pub record IsLeast (R : ℤ → Type 0) (i : Interval) : Type 0 where
  pub holds : (z : ℤ) → R z → Holds i z
  pub low_is_one : R i.low
  pub high_is_one : R i.high
