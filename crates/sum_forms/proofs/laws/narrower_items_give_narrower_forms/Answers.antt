use Rattle.sum_forms.proofs.Narrower.{sum_form_narrower}
use Rattle.sum_forms.proofs.laws.narrower_items_give_narrower_forms.Goals as goal

pub returns : goal.returns
returns c = sum_form_narrower
