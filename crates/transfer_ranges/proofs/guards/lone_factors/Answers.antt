use Rattle.transfer_ranges.proofs.SideLists.{no_lone_factor}
use Rattle.transfer_ranges.proofs.guards.lone_factors.Goals as goal

pub returns-else-factors-eq1 : goal.returns-else-factors-eq1
returns-else-factors-eq1 c = no_lone_factor c.args.factors.now c.if-factors-eq1.false
