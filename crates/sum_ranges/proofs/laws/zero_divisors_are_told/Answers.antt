use Rattle.std.proofs.Common.{pos}
use Rattle.cob_program.specs.Values.{whole_number}
use Rattle.sum_ranges.proofs.Vanish.{sum_zero, product_zero, divisor_missing, divisor_zero}
use Rattle.sum_ranges.proofs.laws.zero_divisors_are_told.Goals as goal

pub returns : goal.returns
returns c = record {
  sum = λ worth range held. sum_zero worth range held;
  product = λ worth range held fs. product_zero worth range held fs (whole_number (pos 1));
  inner = λ worth range held. divisor_missing worth range held;
  divisor = λ worth range held. divisor_zero worth range held;
}
