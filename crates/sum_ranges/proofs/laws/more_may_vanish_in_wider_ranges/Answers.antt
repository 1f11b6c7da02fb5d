use Rattle.sum_ranges.proofs.Vanish.{vanish_rises, divisor_rises}
use Rattle.sum_ranges.proofs.laws.more_may_vanish_in_wider_ranges.Goals as goal

pub returns : goal.returns
returns c = record {
  sum = λ narrow wide within. vanish_rises narrow wide within;
  divisor = λ narrow wide within. divisor_rises narrow wide within;
}
