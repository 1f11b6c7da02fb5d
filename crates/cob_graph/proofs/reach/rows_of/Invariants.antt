use Rattle.std.proofs.Common.{map}
use Rattle.cob_graph.specs.Listing.{plain_call}
use Rattle.cob_graph.proofs.ReachLemmas.{AreRowsTo}
use Rattle.cob_graph.proofs.reach.rows_of.Given as goal

abbrev pub invariant-loop-place : goal.invariant-loop-place
invariant-loop-place l = AreRowsTo (map plain_call l.calls) l.place l.rows.items
