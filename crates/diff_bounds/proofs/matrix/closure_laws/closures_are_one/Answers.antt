use Rattle.diff_bounds.proofs.Closures.{one}
use Rattle.diff_bounds.proofs.matrix.closure_laws.closures_are_one.Goals as goal

pub returns : goal.returns
returns c m a b h k p q = one c.args.size m a b h k p q
