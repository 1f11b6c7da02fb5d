-- The laws of results and of guards, put in.
use Rattle.std.proofs.Common.{Option, Some, None, IfSome, ◌≤ℤ◌}
use Rattle.interval_domain.specs.declared.bounds.Interval.{Interval}
use Rattle.transfer_ranges.specs.Results.{IsInside, IsInsideIfAny}
use Rattle.transfer_ranges.proofs.Keeping.{kept_least}
use Rattle.transfer_ranges.proofs.Narrower.{computed_narrower, exceeds_inside, fitted_inside, may_fail_wider, results_inside}
use Rattle.transfer_ranges.proofs.Taking.{operands_below}
use Rattle.transfer_ranges.specs.Counts.{count_kept}
use Rattle.transfer_ranges.specs.Kept.{IsPartOf, UnitsBelow}
use Rattle.transfer_ranges.proofs.GuardLaws.{guard_below, guard_fits}
use Rattle.transfer_ranges.proofs.CountLaws.{count_rises, count_part}
use Rattle.cell_laws.proofs.ResultLaws.{Given}

inside_of : (o p : Option Interval) → UnitsBelow o p → IsInsideIfAny o p
inside_of None p h = tt
inside_of (Some i) None h = h
inside_of (Some i) (Some j) h = h

part_of : (i : Interval) (o : Option Interval) → IfSome o (λ j. IsPartOf j i) → IfSome o (λ j. IsInside j i × (j.low ≤ℤ j.high))
part_of i None h = tt
part_of i (Some j) h = ((h.low, h.high), h.ordered)

pub rising : Given
rising = record {
  operands_ = λ narrow wide within y. operands_below narrow wide within y;
  computed_ = computed_narrower;
  results_ = results_inside;
  fails_ = may_fail_wider;
  fitted_ = fitted_inside;
  exceeds_ = exceeds_inside;
  kept_ = kept_least;
  guards_ = λ l narrow more wide fewer k t wanted. guard_below l narrow more wide fewer k t wanted;
  cuts_ = λ l range is_numeric ordered t wanted. guard_fits l range is_numeric ordered t wanted;
  counts_ = λ wanted i j h. inside_of (count_kept wanted i) (count_kept wanted j) (count_rises wanted i j h.0 h.1);
  counts_fit_ = λ wanted i. part_of i (count_kept wanted i) (count_part wanted i);
}
