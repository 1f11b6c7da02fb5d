use Rattle.std.specs.Int.{int_max}
use Rattle.bench.specs.Wide.{word}
use Rattle.bench.proofs.Levels.{FilledTo}
use Rattle.bench.proofs.chain.raise.Given as goal

abbrev pub invariant-loop-k : goal.invariant-loop-k
invariant-loop-k l = FilledTo l.initial.a l.a (int_max (word l.initial.a) (word l.b)) l.k
