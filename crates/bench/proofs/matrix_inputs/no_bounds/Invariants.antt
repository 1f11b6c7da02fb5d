use Rattle.diff_bounds.proofs.NoBounds.{IsCleared}
use Rattle.bench.proofs.matrix_inputs.no_bounds.Given as goal

abbrev pub invariant-loop-place : goal.invariant-loop-place
invariant-loop-place l = IsCleared 8 l.place l.words
