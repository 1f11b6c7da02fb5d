use Rattle.std.proofs.Common.{◌≡◌, map}
use Rattle.cob_graph.specs.Listing.{plain_call}
use Rattle.cob_graph.specs.Broken.{least_below, crossing_at}
use Rattle.cob_graph.proofs.nesting.crossings.Given as goal

abbrev pub invariant-loop-place : goal.invariant-loop-place
invariant-loop-place l = l.least ≡ least_below (crossing_at (map plain_call l.calls) l.outer) l.place
