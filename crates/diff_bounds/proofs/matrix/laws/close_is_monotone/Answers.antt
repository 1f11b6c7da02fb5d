use Rattle.diff_bounds.proofs.Monotone.{closures_below, cycles_above}
use Rattle.diff_bounds.proofs.matrix.laws.close_is_monotone.Goals as goal

pub returns-clause-sums : goal.returns-clause-sums
returns-clause-sums c a b low high is first second below = closures_below c.args.size a b low high is.width first second below

pub returns-clause-cycles : goal.returns-clause-cycles
returns-clause-cycles c a b is below = cycles_above c.args.size a b is.width below
