use Rattle.diff_bounds.proofs.Puts.{IsColumnPut}
use Rattle.diff_bounds.proofs.form.assignment.put_column.Given as goal

abbrev pub invariant-loop-row : goal.invariant-loop-row
invariant-loop-row l = IsColumnPut l.places l.fn.m l.words l.column l.row l.m
