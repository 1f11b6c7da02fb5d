use Rattle.diff_bounds.proofs.RowSums.{RowsLowered}
use Rattle.diff_bounds.proofs.matrix.one_row.lower_words.Given as goal

abbrev pub invariant-loop-row : goal.invariant-loop-row
invariant-loop-row l = RowsLowered l.places l.fn.m l.into l.from l.row l.m
