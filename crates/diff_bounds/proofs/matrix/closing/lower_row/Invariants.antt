use Rattle.std.proofs.Common.{◌≡◌}
use Rattle.diff_bounds.specs.Matrix.{word}
use Rattle.diff_bounds.proofs.RowsThrough.{ColumnsDone}
use Rattle.diff_bounds.proofs.matrix.closing.lower_row.Given as goal

abbrev pub invariant-loop-column : goal.invariant-loop-column
invariant-loop-column l = record {
  first : l.first ≡ word l.places l.fn.m l.row l.via;
  columns : ColumnsDone l.places l.fn.m l.via l.row l.column l.m;
}
