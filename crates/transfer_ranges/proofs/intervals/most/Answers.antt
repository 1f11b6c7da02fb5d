use Rattle.std.proofs.Common.{arith}
use Rattle.std.proofs.lemmas.Int.{ints}
use Rattle.dec_num.proofs.Powers.{ten_positive, ten_monotone}
use Rattle.transfer_ranges.proofs.intervals.most.Goals as goal

pub returns-clause-value : goal.returns-clause-value
returns-clause-value c = omega (arith, ints, c.pow10.ensures, ten_positive c.args.digits, ten_monotone c.args.digits 18 c.requires)

pub returns-clause-small : goal.returns-clause-small
returns-clause-small c = omega (arith, ints, c.pow10.ensures, ten_positive c.args.digits, ten_monotone c.args.digits 18 c.requires)
