use Rattle.std.proofs.Common.{◌≡◌, drop}
use Rattle.transfer_ranges.specs.Small.{IsShortRange}
use Rattle.transfer_ranges.specs.Trimming.{trimmed}
use Rattle.transfer_ranges.proofs.members.trimmed.Given as goal

abbrev pub invariant-loop-pair : goal.invariant-loop-pair
invariant-loop-pair g l = record {
  whole : trimmed (g.R.Ranges.range_at l.ranges) l.left (drop l.pair-index l.pairs) ≡ trimmed (g.R.Ranges.range_at l.ranges) l.fn.item l.pairs;
  short : IsShortRange l.left;
}
