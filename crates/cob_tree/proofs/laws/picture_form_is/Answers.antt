use Rattle.cob_tree.proofs.FormLaws.{picture_has_form, form_is_of_picture}
use Rattle.cob_tree.proofs.laws.picture_form_is.Goals as goal

pub returns : goal.returns
returns c = λ text form. (picture_has_form text form, form_is_of_picture text form)
