use Rattle.std.proofs.Common.{arith}
use Rattle.std.proofs.lemmas.Grind.{common_steps}
use Rattle.interval_domain.proofs.IntervalEnds.{hull_gives}
use Rattle.interval_domain.proofs.arithmetic.hull.Goals as goal

pub returns-clause-least : goal.returns-clause-least
returns-clause-least c = hull_gives c.args.a c.args.b _ _ (grind (arith, common_steps)) (grind (arith, common_steps)) c.requires.a c.requires.b
