use Rattle.diff_bounds.proofs.Narrower.{sum_narrower}
use Rattle.diff_bounds.proofs.form.form_laws.narrower_forms_have_narrower_sums.Goals as goal

pub returns : goal.returns
returns c x y z w p q small = sum_narrower x y z w p q small
