use Rattle.std.proofs.Common.{map}
use Rattle.cob_graph.specs.Listing.{plain_call}
use Rattle.cob_graph.proofs.ReachLemmas.{AreHullsTo}
use Rattle.cob_graph.proofs.reach.hulls_of.Given as goal

abbrev pub invariant-loop-call : goal.invariant-loop-call
invariant-loop-call l = AreHullsTo (map plain_call l.calls) l.call-index l.hulls.items
