use Rattle.diff_bounds.proofs.Puts.{IsRowPut}
use Rattle.diff_bounds.proofs.form.assignment.put_row.Given as goal

abbrev pub invariant-loop-column : goal.invariant-loop-column
invariant-loop-column l = IsRowPut l.places l.fn.m l.words l.row l.column l.m
