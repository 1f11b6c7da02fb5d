use Rattle.std.proofs.Common.{◌≡◌, ◌≤◌, ◌+◌, ◌*◌, ◌^◌, ◌++◌, length, None}
use Rattle.cob_data.specs.Lengths.{forest}
use Rattle.cob_data.specs.Spots.{spots}
use Rattle.cob_data.specs.Starts.{IsBefore}
use Rattle.cob_data.proofs.spots.+push_spots.Given as goal

abbrev pub decreases-push_spots : goal.decreases-push_spots
decreases-push_spots l = length l.items.now

abbrev pub invariant-loop-last : goal.invariant-loop-last
invariant-loop-last l = record {
  fewer : length l.rest ≤ length l.items;
  count : length l.placed.items + length l.rest ≡ length l.initial.placed.items + length l.items;
  same : l.placed.items ++ spots l.above (length l.placed.items) l.next l.last (forest l.rest) ≡ l.initial.placed.items ++ spots l.above (length l.initial.placed.items) l.start None (forest l.items);
  low : l.next ≤ length l.placed.items * 2 ^ 32;
  before : IsBefore l.last l.next;
}

abbrev pub decreases-loop-last : goal.decreases-loop-last
decreases-loop-last l = length l.rest
