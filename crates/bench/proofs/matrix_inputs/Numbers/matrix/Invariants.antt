use Rattle.diff_bounds.specs.Matrix.{IsMatrix}
use Rattle.bench.proofs.matrix_inputs.Numbers.matrix.Given as goal

abbrev pub invariant-loop-row : goal.invariant-loop-row
invariant-loop-row l = IsMatrix 8 l.words

abbrev pub invariant-loop-column : goal.invariant-loop-column
invariant-loop-column l = IsMatrix 8 l.words
