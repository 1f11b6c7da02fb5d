use Rattle.diff_bounds.specs.Matrix.{word, IsMatrix}
use Rattle.diff_bounds.specs.Settled.{IsTightBut}
use Rattle.bench.proofs.matrix_inputs.Numbers.lower_row.Given as goal

abbrev pub invariant-loop-place : goal.invariant-loop-place
invariant-loop-place l = record {
  matrix : IsMatrix 8 l.m;
  tight : IsTightBut 9 l.at (word 9 l.m);
}
