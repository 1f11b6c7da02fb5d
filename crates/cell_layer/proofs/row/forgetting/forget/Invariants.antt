use Rattle.std.proofs.Common.{◌≡◌}
use Rattle.cob_graph.specs.Numbers.{items_of}
use Rattle.interval_domain.specs.Rows.{cells_of, IsReached}
use Rattle.cell_layer.specs.Forgetting.{has_bytes}
use Rattle.cell_layer.proofs.Forgotten.{through}
use Rattle.cell_layer.proofs.row.forgetting.forget.Given as goal

abbrev pub invariant-loop-k : goal.invariant-loop-k
invariant-loop-k l = record {
  reached : IsReached l.row;
  cells : cells_of l.row ≡ through (has_bytes l.items l.extent) l.k (items_of l.cells) (cells_of l.fn.row);
}
