use Rattle.std.proofs.Common.{◌≡◌, map}
use Rattle.std.specs.Prelude.{take}
use Rattle.std.specs.List.{All}
use Rattle.cell_steps.specs.OwnRanges.{own_range}
use Rattle.cert_text.specs.Gaps.{IsSmall}
use Rattle.cell_ranges.proofs.ranges.own_ranges.Given as goal

abbrev pub invariant-loop-cell : goal.invariant-loop-cell
invariant-loop-cell l = record {
  value : l.owns.items ≡ map own_range (take l.cell-index l.cells);
  small : All IsSmall l.owns.items;
}
