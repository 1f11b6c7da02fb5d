-- Intervals by their ends.
use Rattle.std.specs.Prelude.{ℤ, pos, neg_ℤ, Option, Some, None}
use Rattle.std.specs.Int.{int_max, int_min}
use Rattle.dec_num.specs.declared.types.Mode.{Mode}
use Rattle.dec_num.specs.Exact.{near, ratio_of}
use Rattle.interval_domain.specs.declared.bounds.Interval.{Interval}

abbrev pub interval : ℤ → ℤ → Interval
interval low high = record { low = low; high = high }

-- The interval from the lesser to the greater of two numbers.
abbrev pub span : ℤ → ℤ → Interval
span x y = interval (int_min x y) (int_max x y)

-- The interval from the least to the greatest end of two.
abbrev pub joined : Interval → Interval → Interval
joined a b = interval (int_min a.low b.low) (int_max a.high b.high)

-- the four corners of a function of two numbers
abbrev pub corners : (ℤ → ℤ → ℤ) → Interval → Interval → Interval
corners f a b = joined (span (f a.low b.low) (f a.low b.high)) (span (f a.high b.low) (f a.high b.high))

-- the numbers with their signs changed
abbrev pub negated : Interval → Interval
negated a = interval (neg_ℤ a.high) (neg_ℤ a.low)

-- what lies above 0
abbrev pub above_zero : Interval → Interval
above_zero a = interval (int_max a.low (pos 1)) a.high

abbrev pub quotient : ℤ → Mode → ℤ → ℤ → ℤ
quotient up mode x y = near mode (ratio_of x y) up

-- what joins those that there are
abbrev pub either_of : Option Interval → Option Interval → Option Interval
either_of (Some a) (Some b) = Some (joined a b)
either_of (Some a) None = Some a
either_of None b = b
