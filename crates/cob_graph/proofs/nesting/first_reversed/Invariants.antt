use Rattle.std.proofs.Common.{◌≡◌, map}
use Rattle.cob_graph.specs.Listing.{plain_call}
use Rattle.cob_graph.specs.Broken.{least_below, reversed_at}
use Rattle.cob_graph.proofs.nesting.first_reversed.Given as goal

abbrev pub invariant-loop-call : goal.invariant-loop-call
invariant-loop-call l = l.least ≡ least_below (reversed_at (map plain_call l.calls)) l.call-index
