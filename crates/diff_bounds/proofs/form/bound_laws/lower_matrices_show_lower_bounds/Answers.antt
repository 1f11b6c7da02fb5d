use Rattle.diff_bounds.proofs.Forms.{form_under}
use Rattle.diff_bounds.proofs.form.bound_laws.lower_matrices_show_lower_bounds.Goals as goal

pub returns : goal.returns
returns c a b f g is lower narrower = form_under c.args.size a b f g is lower narrower
