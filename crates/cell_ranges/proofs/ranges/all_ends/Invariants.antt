use Rattle.std.proofs.Common.{◌≡◌, map}
use Rattle.std.specs.Prelude.{take}
use Rattle.interval_domain.specs.Rows.{lists_of}
use Rattle.cell_ranges.specs.Ranges.{ends_of}
use Rattle.cell_ranges.proofs.ranges.all_ends.Given as goal

abbrev pub invariant-loop-own : goal.invariant-loop-own
invariant-loop-own l = lists_of l.thresholds.items ≡ map ends_of (take l.own-index l.owns)
