use Rattle.cob_program.proofs.Roots.{root_unless_one}
use Rattle.cob_program.proofs.root.root_of.Goals as goal

pub returns-else-parts-eq1 : goal.returns-else-parts-eq1
returns-else-parts-eq1 c = root_unless_one c.args.parts.now c.if-parts-eq1.false
