use Rattle.sum_ranges.proofs.Operations.{turned_least, sums_least, factors_least}
use Rattle.sum_ranges.proofs.laws.ranges_of_operations_are_least.Goals as goal

pub returns : goal.returns
returns c = record {
  turned = turned_least;
  sums = sums_least;
  factors = factors_least;
}
