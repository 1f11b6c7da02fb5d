use Rattle.std.proofs.Common.{◌≡◌}
use Rattle.interval_domain.specs.Rows.{cells_of, IsReached, lists_of}
use Rattle.interval_domain.proofs.CellByCell.{spread}
use Rattle.interval_domain.proofs.widening.widen_cells.Given as goal

abbrev pub invariant-loop-k : goal.invariant-loop-k
invariant-loop-k l = record {
  reached : IsReached l.a;
  cells : cells_of l.a ≡ spread l.k (lists_of l.thresholds) (cells_of l.fn.a) (cells_of l.b);
}
