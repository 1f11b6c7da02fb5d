use Rattle.std.proofs.Common.{◌≡◌, map}
use Rattle.cob_graph.specs.Listing.{plain_call, plain_jump}
use Rattle.cob_graph.specs.Broken.{least_below, leaving_at}
use Rattle.cob_graph.proofs.nesting.leavings.Given as goal

abbrev pub invariant-loop-jump : goal.invariant-loop-jump
invariant-loop-jump l =
    l.least ≡ least_below (leaving_at (map plain_call l.calls) (map plain_jump l.jumps) l.outer) l.jump-index
