use Rattle.sum_forms.proofs.Within.{sum_form_within}
use Rattle.sum_forms.proofs.laws.forms_are_of_their_pack.Goals as goal

pub returns : goal.returns
returns c = sum_form_within
