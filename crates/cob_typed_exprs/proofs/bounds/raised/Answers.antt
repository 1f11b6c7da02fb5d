use Rattle.std.proofs.Common.{arith}
use Rattle.cob_typed_exprs.proofs.SizeLemmas.{great_power}
use Rattle.cob_typed_exprs.proofs.bounds.raised.Goals as goal

pub returns-else-most-eq0 : goal.returns-else-most-eq0
returns-else-most-eq0 c = omega (arith, great_power c.args.most c.args.by (omega (arith, c.if-most-eq0.false)) (omega (arith, c.if-by-le37.false)))
