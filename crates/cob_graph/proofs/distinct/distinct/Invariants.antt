use Rattle.std.proofs.Common.{map, take}
use Rattle.cob_graph.specs.Listing.{plain_call}
use Rattle.cob_graph.specs.Covering.{Covers}
use Rattle.cob_graph.proofs.distinct.distinct.Given as goal

abbrev pub invariant-loop-call : goal.invariant-loop-call
invariant-loop-call l = Covers (map plain_call (take l.call-index l.calls)) (map plain_call l.kept.items)
