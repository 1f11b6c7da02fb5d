use Rattle.transfer_ranges.proofs.SideLists.{no_lone_part}
use Rattle.transfer_ranges.proofs.guards.lone_parts.Goals as goal

pub returns-else-parts-eq1 : goal.returns-else-parts-eq1
returns-else-parts-eq1 c = no_lone_part c.args.parts.now c.if-parts-eq1.false
