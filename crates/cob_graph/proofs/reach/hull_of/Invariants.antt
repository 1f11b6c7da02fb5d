use Rattle.std.proofs.Common.{map}
use Rattle.cob_graph.specs.Listing.{plain_call, plain_span}
use Rattle.cob_graph.proofs.ReachLemmas.{IsHullTo}
use Rattle.cob_graph.proofs.reach.hull_of.Given as goal

abbrev pub invariant-loop-place : goal.invariant-loop-place
invariant-loop-place l = IsHullTo (map plain_call l.calls) (plain_span l.span) l.place l.from l.end
