use Rattle.std.proofs.Common.{◌+◌, ◌∙◌, None, sym, ap, subst}
use Rattle.cob_program.specs.SumView.{plain_factor, plain_part}
use Rattle.sum_ranges.specs.Working.{HasRoom, HasSmallParts}
use Rattle.cob_program.proofs.SumLoops.{factors_from, parts_from, factors_step, parts_step}
use Rattle.sum_ranges.proofs.Rooms.{room_at_first, room_for_one, room_is_small, next_has_room, small_parts_at_first, more_small_parts}
use Rattle.sum_forms.specs.declared.front.Front.TheVariants.{Empty}
use Rattle.sum_forms.specs.SumForms.{product_form_from, sum_form_from}
use Rattle.sum_forms.proofs.Loops.{product_steps, product_ends, parts_go_on, parts_end, parts_end_behind}
use Rattle.sum_forms.proofs.sums.+form.Goals as goal

-- ---- parts

pub parts_form-loop-part-init : goal.parts_form-loop-part-init
parts_form-loop-part-init g t c =
    let d = g.C.PackCells.decimals_of c.args.pack.now in
    let cell = g.C.PackCells.cell_at c.args.pack.now in
    let items = g.R.Ranges.range_at c.args.ranges.now in
    record {
      whole = ap (λ a. sum_form_from d cell items a (parts_from c.args.parts.now 0)) c.nothing-total.ensures.value;
      small = small_parts_at_first (g.R.Ranges.bound_at c.args.ranges.now) (parts_from c.args.parts.now 0) c.requires.small;
      good = c.nothing-total.ensures.good;
    }

pub parts_form-returns-in-None-clause-value : goal.parts_form-returns-in-None-clause-value
parts_form-returns-in-None-clause-value g t c =
    let d = g.C.PackCells.decimals_of c.args.pack.now in
    let cell = g.C.PackCells.cell_at c.args.pack.now in
    let items = g.R.Ranges.range_at c.args.ranges.now in
    let xs = c.args.parts.now in
    let l = c.loop-part in
    let i = l.part-index in
    let x = c.part-item.result in
    parts_end d cell items l.total (plain_part x) (parts_from xs (i + 1)) c.in-None.ensures.value
    ∙ sym (ap (sum_form_from d cell items l.total) (parts_step xs i x c.loop-part-test.true c.part-item.is)) ∙ l.invariant.whole

pub parts_form-returns-in-None-sum_of_two-clause-value : goal.parts_form-returns-in-None-sum_of_two-clause-value
parts_form-returns-in-None-sum_of_two-clause-value g t c =
    let d = g.C.PackCells.decimals_of c.args.pack.now in
    let cell = g.C.PackCells.cell_at c.args.pack.now in
    let items = g.R.Ranges.range_at c.args.ranges.now in
    let xs = c.args.parts.now in
    let l = c.loop-part in
    let i = l.part-index in
    let x = c.part-item.result in
    parts_end_behind d cell items l.total c.in-Some.more (plain_part x) (parts_from xs (i + 1)) c.in-Some.ensures.value c.in-None-sum_of_two.ensures.value
    ∙ sym (ap (sum_form_from d cell items l.total) (parts_step xs i x c.loop-part-test.true c.part-item.is)) ∙ l.invariant.whole

pub parts_form-loop-part-preserved : goal.parts_form-loop-part-preserved
parts_form-loop-part-preserved g t c =
    let d = g.C.PackCells.decimals_of c.args.pack.now in
    let cell = g.C.PackCells.cell_at c.args.pack.now in
    let items = g.R.Ranges.range_at c.args.ranges.now in
    let xs = c.args.parts.now in
    let l = c.loop-part in
    let i = l.part-index in
    let x = c.part-item.result in
    let step = parts_step xs i x c.loop-part-test.true c.part-item.is in
    record {
      whole = parts_go_on d cell items l.total c.in-Some.more c.in-Some-sum_of_two.next (plain_part x) (parts_from xs (i + 1)) c.in-Some.ensures.value c.in-Some-sum_of_two.ensures.value
          ∙ sym (ap (sum_form_from d cell items l.total) step) ∙ l.invariant.whole;
      small = more_small_parts (g.R.Ranges.bound_at c.args.ranges.now) (plain_part x) (parts_from xs (i + 1)) (subst (HasSmallParts (g.R.Ranges.bound_at c.args.ranges.now)) step l.invariant.small);
      good = c.in-Some-sum_of_two.ensures.good;
    }

-- ---- factors

pub product_form-loop-factor-init : goal.product_form-loop-factor-init
product_form-loop-factor-init g t c =
    let d = g.C.PackCells.decimals_of c.args.pack.now in
    let cell = g.C.PackCells.cell_at c.args.pack.now in
    let items = g.R.Ranges.range_at c.args.ranges.now in
    record {
      whole = ap (λ a. product_form_from d cell items Empty a None (factors_from c.args.factors.now 0)) c.point-range.ensures;
      room = room_at_first (g.R.Ranges.bound_at c.args.ranges.now) c.point-range.result (factors_from c.args.factors.now 0) c.point-range.ensures c.requires.small;
      good = tt;
    }

pub product_form-one_factor_range-requires-clause-room : goal.product_form-one_factor_range-requires-clause-room
product_form-one_factor_range-requires-clause-room g t c =
    let bound = g.R.Ranges.bound_at c.args.ranges.now in
    let xs = c.args.factors.now in
    let l = c.loop-factor in
    let i = l.factor-index in
    let x = c.factor-item.result in
    room_for_one bound l.range (plain_factor x) (factors_from xs (i + 1)) (subst (HasRoom bound l.range) (factors_step xs i x c.loop-factor-test.true c.factor-item.is) l.invariant.room)

pub product_form-returns-in-None-clause-value : goal.product_form-returns-in-None-clause-value
product_form-returns-in-None-clause-value g t c =
    let d = g.C.PackCells.decimals_of c.args.pack.now in
    let cell = g.C.PackCells.cell_at c.args.pack.now in
    let items = g.R.Ranges.range_at c.args.ranges.now in
    let xs = c.args.factors.now in
    let l = c.loop-factor in
    let i = l.factor-index in
    let x = c.factor-item.result in
    product_ends d cell items l.front l.range l.form (plain_factor x) (factors_from xs (i + 1)) c.in-None.ensures
    ∙ sym (ap (product_form_from d cell items l.front l.range l.form) (factors_step xs i x c.loop-factor-test.true c.factor-item.is)) ∙ l.invariant.whole

pub product_form-next_form-form-requires-clause-range : goal.product_form-next_form-form-requires-clause-range
product_form-next_form-form-requires-clause-range g t c =
    let items = g.R.Ranges.range_at c.args.ranges.now in
    let bound = g.R.Ranges.bound_at c.args.ranges.now in
    let xs = c.args.factors.now in
    let l = c.loop-factor in
    let i = l.factor-index in
    let x = c.factor-item.result in
    let room = subst (HasRoom bound l.range) (factors_step xs i x c.loop-factor-test.true c.factor-item.is) l.invariant.room in
    room_is_small bound c.in-Some.next (factors_from xs (i + 1)) (next_has_room items bound l.range c.in-Some.next (plain_factor x) (factors_from xs (i + 1)) c.requires.bounded room c.in-Some.ensures)

pub product_form-loop-factor-preserved : goal.product_form-loop-factor-preserved
product_form-loop-factor-preserved g t c =
    let d = g.C.PackCells.decimals_of c.args.pack.now in
    let cell = g.C.PackCells.cell_at c.args.pack.now in
    let items = g.R.Ranges.range_at c.args.ranges.now in
    let bound = g.R.Ranges.bound_at c.args.ranges.now in
    let xs = c.args.factors.now in
    let l = c.loop-factor in
    let i = l.factor-index in
    let x = c.factor-item.result in
    let step = factors_step xs i x c.loop-factor-test.true c.factor-item.is in
    let room = subst (HasRoom bound l.range) step l.invariant.room in
    record {
      whole = product_steps d cell items l.front c.next_front-front.result l.range c.in-Some.next l.form c.next_form-form.result c.step_of-step.result c.decimals.result (plain_factor x) (factors_from xs (i + 1)) c.in-Some.ensures c.decimals.ensures.value c.step_of-step.ensures.value c.next_front-front.ensures c.next_form-form.ensures.value
          ∙ sym (ap (product_form_from d cell items l.front l.range l.form) step) ∙ l.invariant.whole;
      room = next_has_room items bound l.range c.in-Some.next (plain_factor x) (factors_from xs (i + 1)) c.requires.bounded room c.in-Some.ensures;
      good = c.next_form-form.ensures.good;
    }
