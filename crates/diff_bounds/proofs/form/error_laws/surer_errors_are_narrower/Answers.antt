use Rattle.diff_bounds.proofs.Surer.{surer_inside}
use Rattle.diff_bounds.proofs.form.error_laws.surer_errors_are_narrower.Goals as goal

pub returns : goal.returns
returns c = surer_inside
