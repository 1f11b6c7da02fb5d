use Rattle.std.proofs.Common.{◌≡◌, pos}
use Rattle.cob_program.specs.Values.{whole_number}
use Rattle.sum_ranges.specs.Ranged.{point}
use Rattle.sum_ranges.specs.SumRanges.{product_range_from, sum_range_from}
use Rattle.sum_ranges.specs.Working.{HasRoom, HasRoomInSum}
use Rattle.cob_program.proofs.SumLoops.{factors_from, parts_from}
use Rattle.sum_ranges.proofs.sums.+sum.Given as goal

abbrev pub invariant-product_range-loop-factor : goal.invariant-product_range-loop-factor
invariant-product_range-loop-factor g l = record {
  whole : product_range_from (g.R.Ranges.range_at l.ranges) l.range (factors_from l.factors l.factor-index) ≡ product_range_from (g.R.Ranges.range_at l.ranges) (point (whole_number (pos 1))) (factors_from l.factors 0);
  room : HasRoom (g.R.Ranges.bound_at l.ranges) l.range (factors_from l.factors l.factor-index);
}

abbrev pub invariant-parts_range-loop-part : goal.invariant-parts_range-loop-part
invariant-parts_range-loop-part g l = record {
  whole : sum_range_from (g.R.Ranges.range_at l.ranges) l.total (parts_from l.parts l.part-index) ≡ sum_range_from (g.R.Ranges.range_at l.ranges) (point (whole_number (pos 0))) (parts_from l.parts 0);
  room : HasRoomInSum (g.R.Ranges.bound_at l.ranges) l.total (parts_from l.parts l.part-index);
}
