use Rattle.diff_bounds.specs.Matrix.{IsMatrix}
use Rattle.layer_driver.proofs.matrices.lower_row.Given as goal

abbrev pub invariant-loop-column : goal.invariant-loop-column
invariant-loop-column l = IsMatrix l.size l.m
