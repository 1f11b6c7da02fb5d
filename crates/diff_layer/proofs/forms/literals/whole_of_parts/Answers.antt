use Rattle.diff_layer.proofs.WholeSums.{not_one_part}
use Rattle.diff_layer.proofs.forms.literals.whole_of_parts.Goals as goal

pub returns-else-parts-eq1 : goal.returns-else-parts-eq1
returns-else-parts-eq1 c = not_one_part c.args.parts.now c.if-parts-eq1.false
