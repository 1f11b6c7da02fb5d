use Rattle.diff_bounds.proofs.NoBounds.{IsCleared}
use Rattle.matrix_driver.proofs.inputs.no_bounds.Given as goal

abbrev pub invariant-loop-place : goal.invariant-loop-place
invariant-loop-place l = IsCleared 8 l.place l.words
