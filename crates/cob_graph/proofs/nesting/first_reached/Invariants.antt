use Rattle.std.proofs.Common.{◌≡◌, map}
use Rattle.cob_graph.specs.Listing.{plain_call}
use Rattle.cob_graph.specs.Broken.{least_below, cycle_at, crossings}
use Rattle.cob_graph.proofs.nesting.first_reached.Given as goal

abbrev pub invariant-loop-outer : goal.invariant-loop-outer
invariant-loop-outer l =
    (l.cycle ≡ least_below (cycle_at (map plain_call l.calls)) l.outer)
    × (l.crossing ≡ least_below (crossings (map plain_call l.calls)) l.outer)
