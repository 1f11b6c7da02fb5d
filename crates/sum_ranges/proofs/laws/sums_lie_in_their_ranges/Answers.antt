use Rattle.sum_ranges.proofs.Sound.{sum_in, whole_product_in, atom_in}
use Rattle.sum_ranges.proofs.laws.sums_lie_in_their_ranges.Goals as goal

pub returns : goal.returns
returns c = record {
  sum = λ worth range held. sum_in worth range held;
  product = λ worth range held. whole_product_in worth range held;
  atom = λ worth range held. atom_in worth range held;
}
