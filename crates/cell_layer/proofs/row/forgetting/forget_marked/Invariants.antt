use Rattle.std.proofs.Common.{◌≡◌}
use Rattle.interval_domain.specs.Rows.{cells_of, IsReached}
use Rattle.cell_layer.proofs.Forgotten.{through}
use Rattle.cell_layer.proofs.row.forgetting.forget_marked.Given as goal

abbrev pub invariant-loop-k : goal.invariant-loop-k
invariant-loop-k l = record {
  reached : IsReached l.row;
  cells : cells_of l.row ≡ through (λ gone. gone) l.k l.marks (cells_of l.fn.row);
}
