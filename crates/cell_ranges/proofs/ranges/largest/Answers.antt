use Rattle.std.proofs.Common.{arith}
use Rattle.std.proofs.lemmas.Int.{ints}
use Rattle.dec_num.proofs.Powers.{ten_positive, ten_monotone}
use Rattle.cell_ranges.proofs.ranges.largest.Goals as goal

pub overflow_cast-result : goal.overflow_cast-result
overflow_cast-result c =
    let most = ten_monotone c.args.digits 18 c.requires in
    let least = ten_positive c.args.digits in
    search (arith, ints)

pub returns-clause-value : goal.returns-clause-value
returns-clause-value c = omega (arith, ints, ten_monotone c.args.digits 18 c.requires, ten_positive c.args.digits)

pub returns-clause-small : goal.returns-clause-small
returns-clause-small c = omega (arith, ints, ten_monotone c.args.digits 18 c.requires, ten_positive c.args.digits)
