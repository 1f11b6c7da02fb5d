use Rattle.std.proofs.Common.{◌+◌}
use Rattle.diff_bounds.proofs.Tight.{tight_beside}
use Rattle.diff_bounds.proofs.matrix.closure_laws.matrices_stay_tight_beside_a_row.Goals as goal

pub returns : goal.returns
returns c at old new = tight_beside (c.args.size + 1) at old new
