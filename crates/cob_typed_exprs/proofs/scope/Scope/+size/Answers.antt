use Rattle.std.proofs.Common.{◌∙◌, ◌+◌, sym, ap}
use Rattle.cob_program.specs.declared.sum.Factor.{out-Factor}
use Rattle.cob_program.specs.SumView.{plain_atom, plain_part}
use Rattle.cob_typed_exprs.specs.Sizes.{bound_at, plain_size, small_product, small_sum_from}
use Rattle.cob_program.proofs.SumLoops.{factors_from, parts_from, factors_end, parts_step, parts_end}
use Rattle.cob_typed_exprs.proofs.SizeLoops.{factors_step, product_none, product_over, product_step, sum_none, sum_over, sum_step}
use Rattle.cob_typed_exprs.proofs.scope.Scope.+size.Goals as goal

pub small_product-returns-in-None : goal.small_product-returns-in-None
small_product-returns-in-None t c =
    let xs = c.args.factors.now in
    let l = c.loop-factor in
    let i = l.factor-index in
    let x = c.factor-item.result in
    let b = bound_at c.args.self.now in
    product_none b (plain_size l.size) (out-Factor x).over (out-Factor x).minus (plain_atom (out-Factor x).atom) (factors_from xs (i + 1)) c.in-None.ensures
    ∙ sym (ap (small_product b (plain_size l.size)) (factors_step xs i x c.loop-factor-test.true c.factor-item.is)) ∙ l.invariant

pub small_product-returns-in-None-with_factor : goal.small_product-returns-in-None-with_factor
small_product-returns-in-None-with_factor t c =
    let xs = c.args.factors.now in
    let l = c.loop-factor in
    let i = l.factor-index in
    let x = c.factor-item.result in
    let b = bound_at c.args.self.now in
    product_over b (plain_size l.size) (plain_size c.in-Some.by) (out-Factor x).over (out-Factor x).minus (plain_atom (out-Factor x).atom) (factors_from xs (i + 1)) c.in-Some.ensures c.in-None-with_factor.ensures
    ∙ sym (ap (small_product b (plain_size l.size)) (factors_step xs i x c.loop-factor-test.true c.factor-item.is)) ∙ l.invariant

pub small_product-loop-factor-preserved : goal.small_product-loop-factor-preserved
small_product-loop-factor-preserved t c =
    let xs = c.args.factors.now in
    let l = c.loop-factor in
    let i = l.factor-index in
    let x = c.factor-item.result in
    let b = bound_at c.args.self.now in
    product_step b (plain_size l.size) (plain_size c.in-Some.by) (plain_size c.in-Some-with_factor.next) (out-Factor x).over (out-Factor x).minus (plain_atom (out-Factor x).atom) (factors_from xs (i + 1)) c.in-Some.ensures c.in-Some-with_factor.ensures
    ∙ sym (ap (small_product b (plain_size l.size)) (factors_step xs i x c.loop-factor-test.true c.factor-item.is)) ∙ l.invariant

pub small_product-returns : goal.small_product-returns
small_product-returns t c =
    let l = c.loop-factor in
    sym (ap (small_product (bound_at c.args.self.now) (plain_size l.size)) (factors_end c.args.factors.now l.factor-index c.loop-factor-test.false)) ∙ l.invariant

pub small_parts-returns-in-None : goal.small_parts-returns-in-None
small_parts-returns-in-None t c =
    let xs = c.args.parts.now in
    let l = c.loop-part in
    let i = l.part-index in
    let x = c.part-item.result in
    let b = bound_at c.args.self.now in
    sum_none b (plain_size l.size) (plain_part x) (parts_from xs (i + 1)) c.in-None.ensures
    ∙ sym (ap (small_sum_from b (plain_size l.size)) (parts_step xs i x c.loop-part-test.true c.part-item.is)) ∙ l.invariant

pub small_parts-returns-in-None-plus : goal.small_parts-returns-in-None-plus
small_parts-returns-in-None-plus t c =
    let xs = c.args.parts.now in
    let l = c.loop-part in
    let i = l.part-index in
    let x = c.part-item.result in
    let b = bound_at c.args.self.now in
    sum_over b (plain_size l.size) (plain_size c.in-Some.more) (plain_part x) (parts_from xs (i + 1)) c.in-Some.ensures c.in-None-plus.ensures
    ∙ sym (ap (small_sum_from b (plain_size l.size)) (parts_step xs i x c.loop-part-test.true c.part-item.is)) ∙ l.invariant

pub small_parts-loop-part-preserved : goal.small_parts-loop-part-preserved
small_parts-loop-part-preserved t c =
    let xs = c.args.parts.now in
    let l = c.loop-part in
    let i = l.part-index in
    let x = c.part-item.result in
    let b = bound_at c.args.self.now in
    sum_step b (plain_size l.size) (plain_size c.in-Some.more) (plain_size c.in-Some-plus.next) (plain_part x) (parts_from xs (i + 1)) c.in-Some.ensures c.in-Some-plus.ensures
    ∙ sym (ap (small_sum_from b (plain_size l.size)) (parts_step xs i x c.loop-part-test.true c.part-item.is)) ∙ l.invariant

pub small_parts-returns : goal.small_parts-returns
small_parts-returns t c =
    let l = c.loop-part in
    sym (ap (small_sum_from (bound_at c.args.self.now) (plain_size l.size)) (parts_end c.args.parts.now l.part-index c.loop-part-test.false)) ∙ l.invariant
