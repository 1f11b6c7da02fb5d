use Rattle.std.proofs.Common.{◌+◌, ◌∙◌, sym, ap, subst}
use Rattle.cob_program.specs.Sum.{more_factors, no_factors}
use Rattle.cob_program.specs.declared.sum.Factor.{out-Factor}
use Rattle.cob_program.specs.SumView.{plain_factor, plain_part, plain_atom}
use Rattle.sum_ranges.specs.SumRanges.{product_range_from, sum_range_from}
use Rattle.sum_ranges.specs.Working.{HasRoom, HasRoomInSum, CanScaleRange}
use Rattle.cob_program.proofs.SumLoops.{factors_from, parts_from, factor_is, factors_step, parts_step}
use Rattle.sum_ranges.proofs.Rooms.{can_scale, can_add_part, sum_room_at_first, room_at_first, next_has_room, next_has_room_in_sum, product_ends, product_goes_on, sum_ends, sum_goes_on}
use Rattle.sum_ranges.proofs.sums.+sum.Goals as goal

pub one_factor_range-factor_range-requires : goal.one_factor_range-factor_range-requires
one_factor_range-factor_range-requires g t c =
    let f = c.args.factor.now in
    let items = g.R.Ranges.range_at c.args.ranges.now in
    let bound = g.R.Ranges.bound_at c.args.ranges.now in
    let room = subst (λ x. HasRoom bound c.args.range (more_factors x no_factors)) (factor_is f) c.requires.room in
    subst (CanScaleRange (out-Factor f).over c.args.range) (sym c.turned.ensures)
    (can_scale items bound c.args.range c.in-Some.by (out-Factor f).over (out-Factor f).minus (plain_atom (out-Factor f).atom) no_factors c.requires.bounded room c.in-Some.ensures.value)

pub parts_range-loop-part-init : goal.parts_range-loop-part-init
parts_range-loop-part-init g t c = record {
  whole = ap (λ a. sum_range_from (g.R.Ranges.range_at c.args.ranges.now) a (parts_from c.args.parts.now 0)) c.point-total.ensures;
  room = sum_room_at_first (g.R.Ranges.bound_at c.args.ranges.now) c.point-total.result (parts_from c.args.parts.now 0) c.point-total.ensures c.requires.small;
}

pub parts_range-returns-in-None-clause-value : goal.parts_range-returns-in-None-clause-value
parts_range-returns-in-None-clause-value g t c =
    let items = g.R.Ranges.range_at c.args.ranges.now in
    let xs = c.args.parts.now in
    let l = c.loop-part in
    let i = l.part-index in
    let x = c.part-item.result in
    sum_ends items l.total (plain_part x) (parts_from xs (i + 1)) c.in-None.ensures.value
    ∙ sym (ap (sum_range_from items l.total) (parts_step xs i x c.loop-part-test.true c.part-item.is)) ∙ l.invariant.whole

pub parts_range-plus_range-total-requires : goal.parts_range-plus_range-total-requires
parts_range-plus_range-total-requires g t c =
    let items = g.R.Ranges.range_at c.args.ranges.now in
    let bound = g.R.Ranges.bound_at c.args.ranges.now in
    let xs = c.args.parts.now in
    let l = c.loop-part in
    let i = l.part-index in
    let x = c.part-item.result in
    let room = subst (HasRoomInSum bound l.total) (parts_step xs i x c.loop-part-test.true c.part-item.is) l.invariant.room in
    can_add_part items bound l.total c.in-Some.more (plain_part x) (parts_from xs (i + 1)) c.requires.bounded room c.in-Some.ensures.value

pub parts_range-loop-part-preserved : goal.parts_range-loop-part-preserved
parts_range-loop-part-preserved g t c =
    let items = g.R.Ranges.range_at c.args.ranges.now in
    let bound = g.R.Ranges.bound_at c.args.ranges.now in
    let xs = c.args.parts.now in
    let l = c.loop-part in
    let i = l.part-index in
    let x = c.part-item.result in
    let step = parts_step xs i x c.loop-part-test.true c.part-item.is in
    let room = subst (HasRoomInSum bound l.total) step l.invariant.room in
    record {
      whole = sum_goes_on items l.total c.in-Some.more c.plus_range-total.result (plain_part x) (parts_from xs (i + 1)) c.in-Some.ensures.value c.plus_range-total.ensures
          ∙ sym (ap (sum_range_from items l.total) step) ∙ l.invariant.whole;
      room = subst (λ a. HasRoomInSum bound a (parts_from xs (i + 1))) (sym c.plus_range-total.ensures)
          (next_has_room_in_sum items bound l.total c.in-Some.more (plain_part x) (parts_from xs (i + 1)) c.requires.bounded room c.in-Some.ensures.value);
    }

pub product_range-loop-factor-init : goal.product_range-loop-factor-init
product_range-loop-factor-init g t c = record {
  whole = ap (λ a. product_range_from (g.R.Ranges.range_at c.args.ranges.now) a (factors_from c.args.factors.now 0)) c.point-range.ensures;
  room = room_at_first (g.R.Ranges.bound_at c.args.ranges.now) c.point-range.result (factors_from c.args.factors.now 0) c.point-range.ensures c.requires.small;
}

pub product_range-returns-in-None-clause-value : goal.product_range-returns-in-None-clause-value
product_range-returns-in-None-clause-value g t c =
    let items = g.R.Ranges.range_at c.args.ranges.now in
    let xs = c.args.factors.now in
    let l = c.loop-factor in
    let i = l.factor-index in
    let x = c.factor-item.result in
    product_ends items l.range (plain_factor x) (factors_from xs (i + 1)) c.in-None.ensures
    ∙ sym (ap (product_range_from items l.range) (factors_step xs i x c.loop-factor-test.true c.factor-item.is)) ∙ l.invariant.whole

pub product_range-loop-factor-preserved : goal.product_range-loop-factor-preserved
product_range-loop-factor-preserved g t c =
    let items = g.R.Ranges.range_at c.args.ranges.now in
    let bound = g.R.Ranges.bound_at c.args.ranges.now in
    let xs = c.args.factors.now in
    let l = c.loop-factor in
    let i = l.factor-index in
    let x = c.factor-item.result in
    let step = factors_step xs i x c.loop-factor-test.true c.factor-item.is in
    let room = subst (HasRoom bound l.range) step l.invariant.room in
    record {
      whole = product_goes_on items l.range c.in-Some.next (plain_factor x) (factors_from xs (i + 1)) c.in-Some.ensures
          ∙ sym (ap (product_range_from items l.range) step) ∙ l.invariant.whole;
      room = next_has_room items bound l.range c.in-Some.next (plain_factor x) (factors_from xs (i + 1)) c.requires.bounded room c.in-Some.ensures;
    }
