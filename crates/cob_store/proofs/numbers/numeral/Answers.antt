use Rattle.std.proofs.Common.{arith}
use Rattle.num_bytes.proofs.DigitLemmas.{bound_fits}
use Rattle.cob_store.proofs.numbers.numeral.Goals as goal

pub overflow_mul-size : goal.overflow_mul-size
overflow_mul-size c = omega (arith, bound_fits c.loop-digit.digit-index c.loop-digit.size (omega arith) c.loop-digit.invariant.below)

pub overflow_add-size : goal.overflow_add-size
overflow_add-size c = omega (arith, bound_fits c.loop-digit.digit-index c.loop-digit.size (omega arith) c.loop-digit.invariant.below)
