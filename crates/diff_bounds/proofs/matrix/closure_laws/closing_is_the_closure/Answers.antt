use Rattle.diff_bounds.proofs.Closures.{closed_or}
use Rattle.diff_bounds.proofs.matrix.closure_laws.closing_is_the_closure.Goals as goal

pub returns : goal.returns
returns c m is = closed_or c.args.size m c.requires is
