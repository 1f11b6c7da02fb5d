-- Sums with ends as bounds of values at other scales.
use Rattle.std.specs.Prelude.{ℕ, ◌^◌, ℤ, pos, ◌+ℤ◌, ◌*ℤ◌, ◌≤ℤ◌}
use Rattle.dec_num.specs.declared.types.Scaled.{Scaled}
use Rattle.interval_domain.specs.declared.bounds.Interval.{Interval}

-- The value, in units of the scale f, lies between the sum with each end of the constant: both sides times 10 ^ v.scale.
pub record Spans (sum : ℤ) (constant : Interval) (v : Scaled) (f : ℕ) : Type 0 where
  pub least : ((sum +ℤ constant.low) *ℤ pos (10 ^ v.scale)) ≤ℤ (v.units *ℤ pos (10 ^ f))
  pub most : (v.units *ℤ pos (10 ^ f)) ≤ℤ ((sum +ℤ constant.high) *ℤ pos (10 ^ v.scale))

-- it lies between the ends, widened by the error
pub record IsBetween (sum : ℤ) (constant e : Interval) (stored : ℤ) : Type 0 where
  pub least : (sum +ℤ (constant.low +ℤ e.low)) ≤ℤ stored
  pub most : stored ≤ℤ (sum +ℤ (constant.high +ℤ e.high))
