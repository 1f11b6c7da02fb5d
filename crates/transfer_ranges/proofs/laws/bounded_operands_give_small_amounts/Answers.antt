use Rattle.transfer_ranges.proofs.Bounding.{small_sum, small_product, small_remainder}
use Rattle.transfer_ranges.proofs.laws.bounded_operands_give_small_amounts.Goals as goal

pub returns-clause-sums : goal.returns-clause-sums
returns-clause-sums c = small_sum

pub returns-clause-products : goal.returns-clause-products
returns-clause-products c = small_product

pub returns-clause-remainders : goal.returns-clause-remainders
returns-clause-remainders c = small_remainder
