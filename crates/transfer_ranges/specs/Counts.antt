-- What the test of a loop by TIMES leaves of its counter.
use Rattle.std.specs.Prelude.{Bool, Option}
use Rattle.interval_domain.specs.declared.bounds.Interval.{Interval}
use Rattle.cob_edge_parts.specs.Meaning.{is_positive}
use Rattle.transfer_ranges.specs.Kept.{kept}
use Rattle.transfer_ranges.specs.Sides.{is_wanted}

-- the least interval of the numbers above 0, or of the others
abbrev pub count_kept : Bool → Interval → Option Interval
count_kept wanted count = kept (λ z. is_wanted wanted (is_positive z)) count
