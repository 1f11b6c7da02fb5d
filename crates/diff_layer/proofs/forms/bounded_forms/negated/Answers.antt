use Rattle.std.proofs.Common.{negsuc}
use Rattle.diff_layer.proofs.PackForms.{multiple_of_pack}
use Rattle.diff_layer.proofs.forms.bounded_forms.negated.Goals as goal

pub returns-clause-of_pack : goal.returns-clause-of_pack
returns-clause-of_pack c size over =
    multiple_of_pack size c.args.form.now (negsuc 0) c.lin_scale.result c.lin_scale.ensures.small c.lin_scale.ensures.ordered over
