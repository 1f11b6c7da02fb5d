use Rattle.std.proofs.Common.{◌-◌, ◌^◌, ◌<◌, ◌≤◌, arith}
use Rattle.dec_num.proofs.LongDivision.{digits_over, digits_below}
use Rattle.dec_num.proofs.quotient.widened.Goals as goal

pub returns-then-ten-quotient : goal.returns-then-ten-quotient
returns-then-ten-quotient c =
    let long : 10 ^ (37 - c.min-digits.result) ≤ c.loop-place.quotient = omega arith in
    λ below. omega
    (arith, digits_over c.args.mode c.args.n c.args.d c.loop-place.quotient c.loop-place.rest c.loop-place.place c.min-digits.result c.args.up (omega arith) c.loop-place.invariant.divided (omega arith) (omega arith) long)

pub overflow_mul-quotient : goal.overflow_mul-quotient
overflow_mul-quotient c =
    let short : c.loop-place.quotient < 10 ^ (37 - c.min-digits.result) = omega arith in
    let below = digits_below c.args.d c.loop-place.quotient c.loop-place.rest c.min-digits.result c.loop-place.invariant.rest_below (omega arith) short in
    rw c.ten-factor.ensures (omega (arith, below))
