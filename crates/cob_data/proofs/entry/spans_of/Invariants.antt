use Rattle.std.proofs.Common.{◌≡◌, map, take}
use Rattle.cob_data.specs.Entries.{span_of}
use Rattle.cob_data.proofs.entry.spans_of.Given as goal

abbrev pub invariant-loop-range : goal.invariant-loop-range
invariant-loop-range l = l.spans.items ≡ map span_of (take l.range-index l.ranges)
