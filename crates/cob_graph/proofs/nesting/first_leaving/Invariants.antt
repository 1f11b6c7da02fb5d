use Rattle.std.proofs.Common.{◌≡◌, map}
use Rattle.cob_graph.specs.Listing.{plain_call, plain_jump}
use Rattle.cob_graph.specs.Broken.{least_below, leavings}
use Rattle.cob_graph.proofs.nesting.first_leaving.Given as goal

abbrev pub invariant-loop-outer : goal.invariant-loop-outer
invariant-loop-outer l = l.least ≡ least_below (leavings (map plain_call l.calls) (map plain_jump l.jumps)) l.outer
