use Rattle.cob_tree.proofs.FormLaws.{answer_is_picture, answer_is_allowed, answer_is_bad}
use Rattle.cob_tree.proofs.picture.picture_of.Goals as goal

pub returns-clause-picture : goal.returns-clause-picture
returns-clause-picture c = answer_is_picture c.args.text.now c.picture_form.result c.picture_form.ensures.form

pub returns-clause-bad : goal.returns-clause-bad
returns-clause-bad c = answer_is_bad c.args.text.now c.picture_form.result c.picture_form.ensures.bad

pub returns-clause-allowed : goal.returns-clause-allowed
returns-clause-allowed c = answer_is_allowed c.args.text.now c.picture_form.result c.picture_form.ensures.form
