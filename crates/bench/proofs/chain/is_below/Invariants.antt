use Rattle.std.proofs.Common.{◌<◌}
use Rattle.std.specs.Prelude.{◌≤ℤ◌}
use Rattle.bench.specs.Wide.{word}
use Rattle.bench.proofs.chain.is_below.Given as goal

abbrev pub invariant-loop-k : goal.invariant-loop-k
invariant-loop-k l = 0 < l.k → word l.a ≤ℤ word l.b
