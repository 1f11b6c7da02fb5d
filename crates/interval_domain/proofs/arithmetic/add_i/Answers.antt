use Rattle.std.proofs.Common.{arith}
use Rattle.std.proofs.lemmas.Int.{ints}
use Rattle.interval_domain.proofs.IntervalEnds.{add_gives}
use Rattle.interval_domain.proofs.arithmetic.add_i.Goals as goal

pub returns : goal.returns
returns c = add_gives c.args.a c.args.b _ _ (omega (arith, ints)) (omega (arith, ints)) c.requires.a.ordered c.requires.b.ordered
