use Rattle.cob_program.proofs.Roots.{divisor_is_small}
use Rattle.sum_ranges.proofs.taking.taken_quotient.Goals as goal

pub atom_range-requires-clause-small : goal.atom_range-requires-clause-small
atom_range-requires-clause-small g c = divisor_is_small (g.R.Ranges.bound_at c.args.ranges.now) c.args.root c.requires.small
