use Rattle.std.proofs.Common.{◌≡◌, ◌≤◌, ◌+◌, ◌*◌, take}
use Rattle.interval_domain.specs.Elements.{cells_height}
use Rattle.interval_domain.specs.Rows.{lists_of}
use Rattle.cell_layer.proofs.layer.domain.height_of.Given as goal

abbrev pub invariant-loop-list : goal.invariant-loop-list
invariant-loop-list l = record {
  height : l.height ≡ 1 + cells_height (lists_of (take l.list-index l.thresholds));
  most : l.height ≤ 1 + 257 * l.list-index;
}
