use Rattle.std.proofs.Common.{arith}
use Rattle.bench.proofs.Levels.{filled_all}
use Rattle.bench.proofs.chain.fill.Goals as goal

pub returns : goal.returns
returns c = filled_all c.args.a.now c.loop-k.a c.args.level.now c.loop-k.k c.requires (omega (arith, c.loop-k-test.false, c.requires)) c.loop-k.invariant
