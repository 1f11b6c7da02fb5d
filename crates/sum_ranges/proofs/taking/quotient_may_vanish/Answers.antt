use Rattle.cob_program.proofs.Roots.{divisor_is_small}
use Rattle.sum_ranges.proofs.taking.quotient_may_vanish.Goals as goal

pub may_be_zero-requires-clause-small : goal.may_be_zero-requires-clause-small
may_be_zero-requires-clause-small g c = divisor_is_small (g.R.Ranges.bound_at c.args.ranges.now) c.args.root c.requires.small
