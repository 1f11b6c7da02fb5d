use Rattle.diff_bounds.proofs.Forgotten.{forgotten_monotone}
use Rattle.diff_bounds.proofs.form.image_laws.forgotten_matrices_are_monotone.Goals as goal

pub returns : goal.returns
returns c = forgotten_monotone c.args.size
