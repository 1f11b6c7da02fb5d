-- What is known of the items of a case.
use Rattle.std.specs.Prelude.{ℕ, ◌&&◌, nat_le, if◌then◌else◌, Bool, pos, unsigned_abs, int_le, List, slice_get, Option, Some, None}
use Rattle.interval_domain.specs.declared.bounds.Interval.{Interval}
use Rattle.interval_domain.specs.Corners.{interval}
use Rattle.cob_program.specs.Bounds.{Bound}
use Rattle.cob_typed_exprs.specs.Sizes.{capped}
use Rattle.sum_ranges.specs.declared.ranged.Ranged.{Ranged}
use Rattle.sum_ranges.specs.Ranged.{ranged}

-- whether it is an interval of numbers within the bound
abbrev pub fits : Bound → Interval → Bool
fits b i = int_le i.low i.high && (nat_le (unsigned_abs i.low) b.most && nat_le (unsigned_abs i.high) b.most)

-- the interval of an item that was described so, or 0 where the item can't have those numbers
abbrev pub fitting : Bound → Option Interval → Interval
fitting b None = interval (pos 0) (pos 0)
fitting b (Some i) = if fits b i then i else interval (pos 0) (pos 0)

abbrev pub range_within : Bound → Option Interval → Ranged
range_within b units = ranged (fitting b units) b.scale

-- the range of the item at a place
abbrev pub known_range : (ℕ → Bound) → List Interval → ℕ → Ranged
known_range bound units place = range_within (capped (bound place)) (slice_get units place)
