-- What orders leave of a range beside another one, as the code works it.
use Rattle.std.specs.Prelude.{◌≡◌, ◌≤◌, ◌^◌, ℤ, pos, neg_ℤ, ◌+ℤ◌, ◌-ℤ◌, Bool, true, false, ◌&&◌, ◌||◌, Option}
use Rattle.std.specs.Int.{int_max, int_min}
use Rattle.interval_domain.specs.declared.bounds.Interval.{Interval}
use Rattle.interval_domain.specs.Bounds.{Holds, IsInterval}
use Rattle.interval_domain.specs.Corners.{interval}
use Rattle.cob_runs.specs.Deciding.{Order, below, equal, above, number_order}
use Rattle.sum_ranges.specs.declared.ranged.Ranged.{Ranged}
use Rattle.sum_ranges.specs.Ranged.{decimal}
use Rattle.sum_ranges.specs.SumRanges.{raised, joint}
use Rattle.transfer_ranges.specs.declared.beside.Orders.{Orders}
use Rattle.transfer_ranges.specs.Kept.{between}

-- a number of a, to which some number of b stands in such an order
abbrev pub IsBeside : (Order → Bool) → Ranged → Ranged → ℤ → Type 0
IsBeside allowed a b z =
    Holds a.units z × ((w : ℤ) × Holds b.units w × (allowed (number_order (decimal z a.scale) (decimal w b.scale)) ≡ true))

abbrev pub is_below : Order → Bool
is_below below = true
is_below _ = false

abbrev pub is_equal : Order → Bool
is_equal equal = true
is_equal _ = false

abbrev pub is_above : Order → Bool
is_above above = true
is_above _ = false

abbrev pub allows : Orders → Order → Bool
allows os o = (os.below && is_below o) || ((os.equal && is_equal o) || (os.above && is_above o))

-- two ranges are small, also at the greater of their scales
pub record CanRelate (a b : Ranged) : Type 0 where
  pub left : IsInterval (raised a (joint a b))
  pub right : IsInterval (raised b (joint a b))
  pub left_units : IsInterval a.units
  pub right_units : IsInterval b.units
  pub scale : joint a b ≤ 37

-- ---- intervals that may be empty

abbrev pub if_any : Interval → Option Interval
if_any i = between i.low i.high

abbrev pub common : Interval → Interval → Interval
common a b = interval (int_max a.low b.low) (int_min a.high b.high)

-- all small numbers below the high end, or above the low end
abbrev pub under : Interval → Interval
under i = interval (neg_ℤ (pos (10 ^ 37))) (i.high -ℤ pos 1)

abbrev pub over : Interval → Interval
over i = interval (i.low +ℤ pos 1) (pos (10 ^ 37))
