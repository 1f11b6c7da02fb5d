use Rattle.std.proofs.Common.{arith, ◌∙◌, sym}
use Rattle.dec_num.proofs.Powers.{ten_monotone}
use Rattle.std.specs.Char.{is_ascii_digit}
use Rattle.num_bytes.proofs.DigitLemmas.{number_more, bound_more, bound_fits, all_more}
use Rattle.num_bytes.proofs.digits.read_digits.Goals as goal

pub overflow_mul-number : goal.overflow_mul-number
overflow_mul-number c = omega (arith, bound_fits c.loop-byte.byte-index c.loop-byte.number (omega arith) c.loop-byte.invariant.bound)

pub overflow_add-number : goal.overflow_add-number
overflow_add-number c =
    omega (arith, c.if-not-is_ascii_digit.ensures.cases, bound_fits c.loop-byte.byte-index c.loop-byte.number (omega arith) c.loop-byte.invariant.bound)

pub loop-byte-preserved : goal.loop-byte-preserved
loop-byte-preserved c = record {
  digits =
      all_more is_ascii_digit c.args.text.now c.loop-byte.byte-index c.loop-byte-test.true c.loop-byte.invariant.digits
      (sym c.is_ascii_digit.ensures.value ∙ c.if-not-is_ascii_digit.false);
  number =
      number_more c.args.text.now c.loop-byte.byte-index c.loop-byte.number c.from.result c.loop-byte-test.true c.loop-byte.invariant.number
      c.from.ensures;
  bound =
      bound_more c.loop-byte.byte-index c.loop-byte.number c.from.result c.loop-byte.invariant.bound
      (omega (arith, c.if-not-is_ascii_digit.ensures.cases));
}

pub returns-clause-bound : goal.returns-clause-bound
returns-clause-bound c = omega (arith, ten_monotone c.loop-byte.byte-index 18 (omega arith))

pub returns-clause-bound_17 : goal.returns-clause-bound_17
returns-clause-bound_17 c = λ short. omega (arith, ten_monotone c.loop-byte.byte-index 17 (omega arith))
