use Rattle.std.proofs.Common.{arith}
use Rattle.std.proofs.lemmas.Int.{ints}
use Rattle.transfer_ranges.proofs.Working.{product_small, difference_small, left_by}
use Rattle.transfer_ranges.proofs.units.rest.Goals as goal

pub turned-requires : goal.turned-requires
turned-requires c = product_small c.args.under c.args.quotient c.product_range.result c.requires.product c.product_range.ensures

pub returns-clause-value : goal.returns-clause-value
returns-clause-value c =
    left_by c.args.top c.args.under c.args.quotient c.product_range.result c.turned.result c.plus_range-difference.result _ c.limited.result
    c.product_range.ensures c.turned.ensures c.plus_range-difference.ensures c.limited.ensures.value (omega (arith, ints, c.greatest_size.ensures.value))

pub limited-requires-clause-small : goal.limited-requires-clause-small
limited-requires-clause-small c =
    difference_small c.args.top c.args.under c.args.quotient c.product_range.result c.turned.result c.plus_range-difference.result c.requires.rest c.product_range.ensures c.turned.ensures c.plus_range-difference.ensures

pub limited-requires-clause-size : goal.limited-requires-clause-size
limited-requires-clause-size c = omega (arith, ints, c.greatest_size.ensures.positive c.requires.product.left.ordered)
