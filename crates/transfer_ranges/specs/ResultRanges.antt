-- The interval of a receiver's new units, and whether a result may not fit.
use Rattle.std.specs.Prelude.{ℕ, ◌+◌, ◌-◌, ◌^◌, ◌||◌, Bool, true, false, if◌then◌else◌, ℤ, pos, neg_ℤ, ◌-ℤ◌, ◌*ℤ◌, int_le, int_lt, Option, Some, None, is_some}
use Rattle.std.specs.Option.{option_map, option_map_or}
use Rattle.std.specs.Int.{int_max, int_min}
use Rattle.dec_num.specs.declared.types.Mode.{Mode}
use Rattle.dec_num.specs.declared.types.Mode.TheVariants.{Trunc}
use Rattle.dec_num.specs.Exact.{near}
use Rattle.dec_num.specs.Scaled.{value_of}
use Rattle.interval_domain.specs.declared.bounds.Interval.{Interval}
use Rattle.interval_domain.specs.Corners as corner
use Rattle.interval_domain.specs.Corners.{interval}
use Rattle.cob_program.specs.Values.{◌>>=◌}
use Rattle.sum_ranges.specs.declared.ranged.Ranged.{Ranged}
use Rattle.sum_ranges.specs.Ranged.{decimal, ranged}
use Rattle.sum_ranges.specs.SumRanges.{turned, plus_range, product_range}
use Rattle.transfer_ranges.specs.declared.amounts.AmountRange.{AmountRange}
use Rattle.transfer_ranges.specs.declared.amounts.AmountRange.TheVariants as range
use Rattle.transfer_ranges.specs.declared.amounts.Receiver.{Receiver}
use Rattle.transfer_ranges.specs.Receivers.{counter}

-- ---- intervals

-- an interval, where it has a number
abbrev pub if_any : Interval → Option Interval
if_any i = if int_le i.low i.high then Some i else None

abbrev pub meeting : Interval → Interval → Interval
meeting a b = interval (int_max a.low b.low) (int_min a.high b.high)

-- from the number with the other sign to the number
abbrev pub plus_minus : ℤ → Interval
plus_minus z = interval (neg_ℤ z) z

abbrev pub greatest_size : Interval → ℤ
greatest_size i = int_max (neg_ℤ i.low) i.high

-- the least interval of absolute values
abbrev pub absolutes : Interval → Interval
absolutes i = interval (int_max (pos 0) (int_max i.low (neg_ℤ i.high))) (greatest_size i)

-- ---- units of a scale

-- the ends, cut or rounded
abbrev pub near_range : Mode → ℕ → Ranged → Interval
near_range mode scale r =
    interval (near mode (value_of (decimal r.units.low r.scale)) (pos scale)) (near mode (value_of (decimal r.units.high r.scale)) (pos scale))

-- over the divisors above 0, where there are any
abbrev pub over_positive : Mode → ℤ → Interval → Interval → Option Interval
over_positive mode up n d =
    if int_le (pos 1) d.high then Some (corner.corners (corner.quotient up mode) n (corner.above_zero d)) else None

-- Quotients by the divisors that aren't 0, cut or rounded once; nothing where there are none.
abbrev pub quotients : Mode → ℤ → Interval → Interval → Option Interval
quotients mode up n d = corner.either_of (over_positive mode up n d) (over_positive mode up (corner.negated n) (corner.negated d))

abbrev pub quotient_units : Mode → ℕ → Ranged → Ranged → Option Interval
quotient_units mode scale n d = quotients mode (pos (scale + d.scale) -ℤ pos n.scale) n.units d.units

-- the numbers of r that lie below so many units of a scale that isn't above its own, and above as many negated
abbrev pub limited : ℤ → ℕ → Ranged → Option Ranged
limited size scale r =
    option_map (λ i. ranged i r.scale) (if_any (meeting r.units (plus_minus ((size *ℤ pos (10 ^ (r.scale - scale))) -ℤ pos 1))))

-- What is divided less divisor times cut quotient. Its size stays below that of the greatest divisor, times one unit of the
-- quotient's scale: it is at least one unit of the remainder's own scale less.
abbrev pub rest_range : ℕ → Ranged → Ranged → Option Ranged
rest_range scale n d =
    quotient_units Trunc scale n d >>= λ q.
    limited (greatest_size d.units) (d.scale + scale) (plus_range n (turned true (product_range d (ranged q scale))))

-- the units of an amount; nothing where each divisor is 0
abbrev pub amount_units : Mode → ℕ → AmountRange → Option Interval
amount_units mode scale (range.Decimal r) = Some (near_range mode scale r)
amount_units mode scale (range.Quotient top under) = quotient_units mode scale top under
amount_units mode scale (range.Remainder top under k) = option_map (near_range mode scale) (rest_range k top under)

-- ---- receivers

-- the greatest number of so many digits
abbrev pub most : ℕ → ℤ
most digits = pos (10 ^ digits - 1)

-- the numbers of so many digits, where there are any
abbrev pub held_range : ℕ → Interval → Option Interval
held_range digits i = if_any (meeting i (plus_minus (most digits)))

abbrev pub kept_range : Bool → Interval → Interval
kept_range true i = i
kept_range false i = absolutes i

-- what a receiver holds behind a store of some number of the interval; nothing where none fits
abbrev pub fitted : Receiver → Interval → Option Interval
fitted r i = option_map (kept_range r.signed) (held_range r.digits i)

-- whether some number of the interval doesn't fit
abbrev pub exceeds : ℕ → Interval → Bool
exceeds digits i = int_lt i.low (neg_ℤ (most digits)) || int_lt (most digits) i.high

-- ---- stores

-- The interval of a receiver behind a store that fits; nothing where none does.
abbrev pub result_range : Mode → Receiver → AmountRange → Option Interval
result_range mode r a = amount_units mode r.scale a >>= fitted r

abbrev pub may_fit : Mode → Receiver → AmountRange → Bool
may_fit mode r a = is_some (result_range mode r a)

-- Whether some result doesn't fit. Where there is none nothing is asked.
abbrev pub may_fail : Mode → Receiver → AmountRange → Bool
may_fail mode r a = option_map_or (exceeds r.digits) (amount_units mode r.scale a) false

-- ---- counters

-- a counter counts down by one
abbrev pub lowered : Interval → Interval
lowered i = interval (i.low -ℤ pos 1) (i.high -ℤ pos 1)

abbrev pub count_range : Interval → Option Interval
count_range i = fitted counter i

abbrev pub count_may_fail : Interval → Bool
count_may_fail i = exceeds counter.digits i
