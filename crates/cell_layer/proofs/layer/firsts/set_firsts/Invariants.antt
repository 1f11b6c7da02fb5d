use Rattle.std.proofs.Common.{◌≡◌, length, take}
use Rattle.interval_domain.specs.Rows.{IsReached, cells_of}
use Rattle.cell_layer.specs.Firsts.{first_cells}
use Rattle.cell_layer.proofs.layer.firsts.set_firsts.Given as goal

abbrev pub invariant-loop-k : goal.invariant-loop-k
invariant-loop-k l = record {
  reached : IsReached l.row;
  many : length (cells_of l.row) ≡ length l.cells;
  front : take l.k (cells_of l.row) ≡ take l.k (first_cells l.layout l.cells);
}
