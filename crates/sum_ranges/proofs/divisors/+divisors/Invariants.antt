use Rattle.std.proofs.Common.{◌≡◌}
use Rattle.sum_ranges.specs.Vanishing.{may_vanish_in_parts, may_vanish_in_product}
use Rattle.sum_ranges.specs.Working.{HasSmallFactors, HasSmallParts}
use Rattle.cob_program.proofs.SumLoops.{factors_from, parts_from}
use Rattle.sum_ranges.proofs.divisors.+divisors.Given as goal

abbrev pub invariant-may_vanish_in_parts-loop-part : goal.invariant-may_vanish_in_parts-loop-part
invariant-may_vanish_in_parts-loop-part g l = record {
  whole : may_vanish_in_parts (g.R.Ranges.range_at l.ranges) (parts_from l.parts l.part-index) ≡ may_vanish_in_parts (g.R.Ranges.range_at l.ranges) (parts_from l.parts 0);
  small : HasSmallParts (g.R.Ranges.bound_at l.ranges) (parts_from l.parts l.part-index);
}

abbrev pub invariant-may_vanish_in_product-loop-factor : goal.invariant-may_vanish_in_product-loop-factor
invariant-may_vanish_in_product-loop-factor g l = record {
  whole : may_vanish_in_product (g.R.Ranges.range_at l.ranges) (factors_from l.factors l.factor-index) ≡ may_vanish_in_product (g.R.Ranges.range_at l.ranges) (factors_from l.factors 0);
  small : HasSmallFactors (g.R.Ranges.bound_at l.ranges) (factors_from l.factors l.factor-index);
}
