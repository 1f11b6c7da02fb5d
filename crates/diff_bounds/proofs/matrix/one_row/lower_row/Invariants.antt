use Rattle.diff_bounds.proofs.RowSums.{ColumnsLowered}
use Rattle.diff_bounds.proofs.matrix.one_row.lower_row.Given as goal

abbrev pub invariant-loop-column : goal.invariant-loop-column
invariant-loop-column l = ColumnsLowered l.places l.fn.m l.from l.first l.row l.column l.m
