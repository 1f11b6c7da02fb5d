use Rattle.diff_layer.proofs.WholeSums.{not_one_factor}
use Rattle.diff_layer.proofs.forms.literals.whole_of_factors.Goals as goal

pub returns-else-factors-eq1 : goal.returns-else-factors-eq1
returns-else-factors-eq1 c = not_one_factor c.args.minus c.args.factors.now c.if-factors-eq1.false
