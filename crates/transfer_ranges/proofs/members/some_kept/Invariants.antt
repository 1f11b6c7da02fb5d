use Rattle.std.proofs.Common.{◌≡◌, true, take}
use Rattle.transfer_ranges.specs.Trimming.{pairs_kept}
use Rattle.transfer_ranges.proofs.members.some_kept.Given as goal

abbrev pub invariant-loop-pair : goal.invariant-loop-pair
invariant-loop-pair g l = l.found ≡ pairs_kept (g.R.Ranges.range_at l.ranges) true l.item (take l.pair-index l.pairs)
