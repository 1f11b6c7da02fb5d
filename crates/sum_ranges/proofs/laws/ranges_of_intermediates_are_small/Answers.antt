use Rattle.sum_ranges.proofs.Bounded.{each_in_sum, each_in_whole_product, each_in_atom}
use Rattle.sum_ranges.proofs.laws.ranges_of_intermediates_are_small.Goals as goal

pub returns : goal.returns
returns c = record {
  sum = λ range bound held. each_in_sum range bound held;
  product = λ range bound held. each_in_whole_product range bound held;
  atom = λ range bound held. each_in_atom range bound held;
}
