use Rattle.cob_graph.specs.Reaching.{AreTaken}
use Rattle.cob_graph.proofs.reach.Row.take.Given as goal

abbrev pub invariant-loop-place : goal.invariant-loop-place
invariant-loop-place l = AreTaken l.self l.place l.initial.marks l.marks
