use Rattle.diff_bounds.proofs.Narrower.{multiple_narrower}
use Rattle.diff_bounds.proofs.form.form_laws.narrower_forms_have_narrower_multiples.Goals as goal

pub returns : goal.returns
returns c x y by p small = multiple_narrower x y by p small
