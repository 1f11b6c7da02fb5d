use Rattle.sum_ranges.proofs.Narrow.{sum_below, whole_product_below, atom_below}
use Rattle.sum_ranges.proofs.laws.narrower_items_give_narrower_sums.Goals as goal

pub returns : goal.returns
returns c = record {
  sum = λ narrow wide within. sum_below narrow wide within;
  product = λ narrow wide within. whole_product_below narrow wide within;
  atom = λ narrow wide within. atom_below narrow wide within;
}
