use Rattle.diff_layer.proofs.PackForms.{sum_of_pack}
use Rattle.diff_layer.proofs.forms.bounded_forms.widened.Goals as goal

pub returns-clause-of_pack : goal.returns-clause-of_pack
returns-clause-of_pack c size over =
    sum_of_pack size c.args.form.now c.constant.result c.args.error c.lin_add.result c.constant.ensures c.lin_add.ensures.small c.lin_add.ensures.ordered over
