use Rattle.diff_bounds.specs.Matrix.{IsMatrix}
use Rattle.layer_driver.proofs.matrices.lower_matrix.Given as goal

abbrev pub invariant-loop-row : goal.invariant-loop-row
invariant-loop-row l = IsMatrix l.size l.m
