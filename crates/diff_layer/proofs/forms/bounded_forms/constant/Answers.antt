use Rattle.diff_layer.proofs.PackForms.{constant_is}
use Rattle.diff_layer.proofs.forms.bounded_forms.constant.Goals as goal

pub returns : goal.returns
returns c = constant_is c.args.numbers
