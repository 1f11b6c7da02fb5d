use Rattle.cob_tree.proofs.FormLaws.{one_form}
use Rattle.cob_tree.proofs.laws.one_form.Goals as goal

pub returns : goal.returns
returns c = one_form
