use Rattle.diff_bounds.proofs.Closures.{closed_to, none_closed_without}
use Rattle.diff_bounds.proofs.matrix.closure_laws.closures_are_closings.Goals as goal

pub returns-clause-closed : goal.returns-clause-closed
returns-clause-closed c m d is closed = closed_to c.args.size m d c.requires is closed

pub returns-clause-none : goal.returns-clause-none
returns-clause-none c m is wild = none_closed_without c.args.size m c.requires is wild
