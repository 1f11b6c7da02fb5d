use Rattle.diff_bounds.proofs.Scales.{stored_between}
use Rattle.diff_bounds.proofs.form.error_laws.stores_lie_between.Goals as goal

pub returns : goal.returns
returns c = stored_between
