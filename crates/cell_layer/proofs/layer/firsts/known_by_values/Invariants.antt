use Rattle.std.proofs.Common.{◌≡◌, ◌≤◌}
use Rattle.interval_domain.specs.Known.{IsOrdered}
use Rattle.cell_laws.specs.Entry.{least_of}
use Rattle.cell_layer.specs.Firsts.{number_of}
use Rattle.cell_layer.proofs.layer.firsts.known_by_values.Given as goal

abbrev pub invariant-loop-number : goal.invariant-loop-number
invariant-loop-number l = record {
  some : 1 ≤ l.number;
  value : l.known ≡ least_of (number_of l.item l.zeros l.ones) l.number;
  ordered : IsOrdered l.known;
}
