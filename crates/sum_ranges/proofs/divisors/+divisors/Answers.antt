use Rattle.std.proofs.Common.{◌+◌, ◌∙◌, sym, ap, subst}
use Rattle.cob_program.specs.SumView.{plain_factor, plain_part}
use Rattle.sum_ranges.specs.Vanishing.{may_vanish_in_parts, may_vanish_in_product}
use Rattle.sum_ranges.specs.Working.{HasSmallFactors, HasSmallParts}
use Rattle.cob_program.proofs.SumLoops.{factors_from, parts_from, factors_step, parts_step}
use Rattle.sum_ranges.proofs.Rooms.{more_small_factors, more_small_parts, factor_passed, part_passed}
use Rattle.sum_ranges.proofs.divisors.+divisors.Goals as goal

pub may_vanish_in_parts-loop-part-preserved : goal.may_vanish_in_parts-loop-part-preserved
may_vanish_in_parts-loop-part-preserved g t c =
    let items = g.R.Ranges.range_at c.args.ranges.now in
    let bound = g.R.Ranges.bound_at c.args.ranges.now in
    let xs = c.args.parts.now in
    let l = c.loop-part in
    let i = l.part-index in
    let x = c.part-item.result in
    let step = parts_step xs i x c.loop-part-test.true c.part-item.is in
    record {
      whole = part_passed items (plain_part x) (parts_from xs (i + 1)) c.if-may_vanish_in_part.ensures
          ∙ sym (ap (may_vanish_in_parts items) step) ∙ l.invariant.whole;
      small = more_small_parts bound (plain_part x) (parts_from xs (i + 1)) (subst (HasSmallParts bound) step l.invariant.small);
    }

pub may_vanish_in_product-loop-factor-preserved : goal.may_vanish_in_product-loop-factor-preserved
may_vanish_in_product-loop-factor-preserved g t c =
    let items = g.R.Ranges.range_at c.args.ranges.now in
    let bound = g.R.Ranges.bound_at c.args.ranges.now in
    let xs = c.args.factors.now in
    let l = c.loop-factor in
    let i = l.factor-index in
    let x = c.factor-item.result in
    let step = factors_step xs i x c.loop-factor-test.true c.factor-item.is in
    record {
      whole = factor_passed items (plain_factor x) (factors_from xs (i + 1)) c.if-may_vanish_in_factor.ensures
          ∙ sym (ap (may_vanish_in_product items) step) ∙ l.invariant.whole;
      small = more_small_factors bound (plain_factor x) (factors_from xs (i + 1)) (subst (HasSmallFactors bound) step l.invariant.small);
    }
