use Rattle.diff_bounds.proofs.Rounds.{within}
use Rattle.diff_bounds.proofs.form.error_laws.errors_are_sound.Goals as goal

pub returns : goal.returns
returns c = within
