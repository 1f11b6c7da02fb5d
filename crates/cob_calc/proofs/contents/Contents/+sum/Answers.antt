use Rattle.std.proofs.Common.{◌+◌, ◌∙◌, sym, ap, subst}
use Rattle.cob_program.specs.Sum.{more_factors, no_factors}
use Rattle.cob_program.specs.Values.{plus, product_from, sum_from}
use Rattle.cob_program.specs.declared.sum.Factor.{out-Factor}
use Rattle.cob_program.specs.SumView.{plain_factor, plain_part, plain_atom}
use Rattle.cob_calc.specs.Contents.{amount_at}
use Rattle.cob_calc.specs.Working.{HasRoom, HasRoomInSum, CanScale}
use Rattle.cob_program.proofs.SumLoops.{factors_from, parts_from, factor_is, factors_step, parts_step}
use Rattle.cob_calc.proofs.SumLemmas.{can_scale, sum_room_at_first, room_at_first, next_has_room, next_has_room_in_sum, sum_room_is_small, product_ends, product_goes_on, sum_goes_on}
use Rattle.cob_calc.proofs.contents.Contents.+sum.Goals as goal

pub factor-with_factor-requires : goal.factor-with_factor-requires
factor-with_factor-requires t c =
    let f = c.args.factor.now in
    let room = subst (λ x. HasRoom c.args.self.now c.args.value (more_factors x no_factors)) (factor_is f) c.requires.room in
    subst (CanScale (out-Factor f).over c.args.value) (sym c.negated.ensures)
    (can_scale c.args.self.now c.args.value c.in-Some.by (out-Factor f).over (out-Factor f).minus (plain_atom (out-Factor f).atom) no_factors c.requires.sound room c.in-Some.ensures.value)

pub parts-loop-part-init : goal.parts-loop-part-init
parts-loop-part-init t c = record {
  whole = ap (λ a. sum_from (amount_at c.args.self.now) a (parts_from c.args.parts.now 0)) c.scaled-total.ensures;
  room = sum_room_at_first c.args.self.now c.scaled-total.result (parts_from c.args.parts.now 0) c.scaled-total.ensures c.requires.small;
}

pub parts-plus-total-requires-clause-sum : goal.parts-plus-total-requires-clause-sum
parts-plus-total-requires-clause-sum t c =
    let xs = c.args.parts.now in
    let l = c.loop-part in
    let i = l.part-index in
    let x = c.part-item.result in
    let room = subst (HasRoomInSum c.args.self.now l.total) (parts_step xs i x c.loop-part-test.true c.part-item.is) l.invariant.room in
    sum_room_is_small c.args.self.now (plus l.total c.in-Some.more) (parts_from xs (i + 1))
    (next_has_room_in_sum c.args.self.now l.total c.in-Some.more (plain_part x) (parts_from xs (i + 1)) c.requires.sound room c.in-Some.ensures.value)

pub parts-loop-part-preserved : goal.parts-loop-part-preserved
parts-loop-part-preserved t c =
    let xs = c.args.parts.now in
    let l = c.loop-part in
    let i = l.part-index in
    let x = c.part-item.result in
    let step = parts_step xs i x c.loop-part-test.true c.part-item.is in
    let room = subst (HasRoomInSum c.args.self.now l.total) step l.invariant.room in
    record {
      whole = sum_goes_on (amount_at c.args.self.now) l.total c.in-Some.more c.plus-total.result (plain_part x) (parts_from xs (i + 1)) c.in-Some.ensures.value c.plus-total.ensures
          ∙ sym (ap (sum_from (amount_at c.args.self.now) l.total) step) ∙ l.invariant.whole;
      room = subst (λ a. HasRoomInSum c.args.self.now a (parts_from xs (i + 1))) (sym c.plus-total.ensures)
          (next_has_room_in_sum c.args.self.now l.total c.in-Some.more (plain_part x) (parts_from xs (i + 1)) c.requires.sound room c.in-Some.ensures.value);
    }

pub product-loop-factor-init : goal.product-loop-factor-init
product-loop-factor-init t c = record {
  whole = ap (λ a. product_from (amount_at c.args.self.now) a (factors_from c.args.factors.now 0)) c.scaled-value.ensures;
  room = room_at_first c.args.self.now c.scaled-value.result (factors_from c.args.factors.now 0) c.scaled-value.ensures c.requires.small;
}

pub product-returns-in-None-clause-value : goal.product-returns-in-None-clause-value
product-returns-in-None-clause-value t c =
    let xs = c.args.factors.now in
    let l = c.loop-factor in
    let i = l.factor-index in
    let x = c.factor-item.result in
    product_ends (amount_at c.args.self.now) l.value (plain_factor x) (factors_from xs (i + 1)) c.in-None.ensures
    ∙ sym (ap (product_from (amount_at c.args.self.now) l.value) (factors_step xs i x c.loop-factor-test.true c.factor-item.is)) ∙ l.invariant.whole

pub product-loop-factor-preserved : goal.product-loop-factor-preserved
product-loop-factor-preserved t c =
    let xs = c.args.factors.now in
    let l = c.loop-factor in
    let i = l.factor-index in
    let x = c.factor-item.result in
    let step = factors_step xs i x c.loop-factor-test.true c.factor-item.is in
    let room = subst (HasRoom c.args.self.now l.value) step l.invariant.room in
    record {
      whole = product_goes_on (amount_at c.args.self.now) l.value c.in-Some.next (plain_factor x) (factors_from xs (i + 1)) c.in-Some.ensures
          ∙ sym (ap (product_from (amount_at c.args.self.now) l.value) step) ∙ l.invariant.whole;
      room = next_has_room c.args.self.now l.value c.in-Some.next (plain_factor x) (factors_from xs (i + 1)) c.requires.sound room c.in-Some.ensures;
    }
