use Rattle.bench.proofs.Levels.{FilledTo}
use Rattle.bench.proofs.chain.fill.Given as goal

abbrev pub invariant-loop-k : goal.invariant-loop-k
invariant-loop-k l = FilledTo l.initial.a l.a l.level l.k
