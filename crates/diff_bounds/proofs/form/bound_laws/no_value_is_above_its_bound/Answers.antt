use Rattle.diff_bounds.proofs.Forms.{form_above}
use Rattle.diff_bounds.proofs.form.bound_laws.no_value_is_above_its_bound.Goals as goal

pub returns : goal.returns
returns c m cells form z over stands holds = form_above c.args.size m cells form z c.requires over stands holds
