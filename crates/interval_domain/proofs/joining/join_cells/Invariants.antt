use Rattle.std.proofs.Common.{◌≡◌}
use Rattle.interval_domain.specs.Rows.{cells_of, IsReached}
use Rattle.interval_domain.proofs.CellByCell.{merged}
use Rattle.interval_domain.proofs.joining.join_cells.Given as goal

abbrev pub invariant-loop-k : goal.invariant-loop-k
invariant-loop-k l = record {
  reached : IsReached l.a;
  cells : cells_of l.a ≡ merged l.k (cells_of l.fn.a) (cells_of l.b);
}
