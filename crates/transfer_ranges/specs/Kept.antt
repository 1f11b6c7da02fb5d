-- The least interval of those numbers of an interval for which a test is true.
use Rattle.std.specs.Prelude.{ℕ, zero, suc, if◌then◌else◌, Bool, is_some, ℤ, pos, negsuc, ◌+ℤ◌, ◌-ℤ◌, ◌≤ℤ◌, int_le, Option, Some, None}
use Rattle.std.specs.Int.{int_max, int_min}
use Rattle.dec_num.specs.declared.types.Scaled.{Scaled}
use Rattle.interval_domain.specs.declared.bounds.Interval.{Interval}
use Rattle.interval_domain.specs.Bounds.{IsLeast}
use Rattle.interval_domain.specs.Corners.{interval}
use Rattle.cob_program.specs.Values.{◌>>=◌}
use Rattle.sum_ranges.specs.declared.ranged.Ranged.{Ranged}
use Rattle.sum_ranges.specs.Ranged.{decimal}

abbrev pub count_of : ℤ → ℕ
count_of (pos n) = n
count_of (negsuc n) = zero

-- how many numbers an interval has
abbrev pub size_of : Interval → ℕ
size_of i = count_of (i.high -ℤ i.low +ℤ pos 1)

module _ (test : ℤ → Bool) where
  -- the first of so many numbers, from z upwards
  abbrev pub first_up : ℕ → ℤ → Option ℤ
  first_up zero z = None
  first_up (suc n) z = if test z then Some z else first_up n (z +ℤ pos 1)

  -- the first of so many numbers, from z downwards
  abbrev pub first_down : ℕ → ℤ → Option ℤ
  first_down zero z = None
  first_down (suc n) z = if test z then Some z else first_down n (z -ℤ pos 1)

  -- whether it is true of some number of the interval
  abbrev pub is_met : Interval → Bool
  is_met i = is_some (first_up (size_of i) i.low)

  -- from the first number of which it is true to the last; nothing where there is none
  abbrev pub kept : Interval → Option Interval
  kept i = first_up (size_of i) i.low >>= λ low. first_down (size_of i) i.high >>= λ high. Some (interval low high)

-- ---- decimals of one scale

abbrev pub some_in : (Scaled → Bool) → Ranged → Bool
some_in test a = is_met (λ z. test (decimal z a.scale)) a.units

abbrev pub kept_in : (Scaled → Bool) → Ranged → Option Interval
kept_in test a = kept (λ z. test (decimal z a.scale)) a.units

-- ---- intervals that may be empty

abbrev pub between : ℤ → ℤ → Option Interval
between low high = if int_le low high then Some (interval low high) else None

-- the numbers of both
abbrev pub met : Interval → Interval → Option Interval
met a b = between (int_max a.low b.low) (int_min a.high b.high)

-- ---- least intervals

-- the least interval of the numbers of which R is true; nothing where there are none
abbrev pub IsLeastIfAny : (ℤ → Type 0) → Option Interval → Type 0
IsLeastIfAny R None = (z : ℤ) → R z → ⊥
IsLeastIfAny R (Some i) = IsLeast R i

-- some numbers of the whole, and no others
pub record IsPartOf (i whole : Interval) : Type 0 where
  pub low : whole.low ≤ℤ i.low
  pub ordered : i.low ≤ℤ i.high
  pub high : i.high ≤ℤ whole.high

-- one interval within another, or nothing
abbrev pub UnitsBelow : Option Interval → Option Interval → Type 0
UnitsBelow None p = Unit {0}
UnitsBelow (Some i) None = ⊥
UnitsBelow (Some i) (Some j) = (j.low ≤ℤ i.low) × (i.high ≤ℤ j.high)
