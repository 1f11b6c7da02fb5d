use Rattle.std.proofs.Common.{map}
use Rattle.cob_graph.specs.Listing.{plain_call}
use Rattle.cob_graph.specs.Reaching.{IsSearchTo}
use Rattle.cob_graph.proofs.reach.search.Given as goal

abbrev pub invariant-loop-next : goal.invariant-loop-next
invariant-loop-next l = IsSearchTo (map plain_call l.calls) l.start l.next l.marks l.found.items
