use Rattle.diff_bounds.proofs.Monotone.{stands_higher}
use Rattle.diff_bounds.proofs.matrix.laws.stands_above.Goals as goal

pub returns : goal.returns
returns c a b cells is below = stands_higher c.args.size a b cells is.width below
