use Rattle.std.proofs.Common.{map}
use Rattle.cob_graph.specs.Listing.{plain_call, plain_span}
use Rattle.cob_graph.specs.Reaching.{IsLooked}
use Rattle.cob_graph.proofs.reach.look.Given as goal

abbrev pub invariant-loop-place : goal.invariant-loop-place
invariant-loop-place l =
    IsLooked (map plain_call l.calls) (plain_span l.span) l.fn.hull.from l.place
    l.initial.marks l.initial.found.items l.marks l.found.items
