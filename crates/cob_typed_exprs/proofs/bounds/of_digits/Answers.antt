use Rattle.std.proofs.Common.{◌-◌, ◌∙◌, ap, arith}
use Rattle.cob_typed_exprs.proofs.SizeLemmas.{bound, one_power, capped_digits, capped_many}
use Rattle.cob_typed_exprs.proofs.bounds.of_digits.Goals as goal

pub overflow_sub-most : goal.overflow_sub-most
overflow_sub-most c = omega (arith, one_power c.args.digits, c.ten.ensures)

pub returns-then-digits-le37 : goal.returns-then-digits-le37
returns-then-digits-le37 c = ap (λ m. bound (m - 1) c.args.scale) c.ten.ensures ∙ capped_digits c.args.digits c.args.scale c.if-digits-le37.true

pub returns-else-digits-le37 : goal.returns-else-digits-le37
returns-else-digits-le37 c = capped_many c.args.digits c.args.scale (omega (arith, c.if-digits-le37.false))
