use Rattle.diff_bounds.proofs.RowsThrough.{RowsDone}
use Rattle.diff_bounds.proofs.matrix.closing.go_through.Given as goal

abbrev pub invariant-loop-row : goal.invariant-loop-row
invariant-loop-row l = RowsDone l.places l.fn.m l.via l.row l.m
