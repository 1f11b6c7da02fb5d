use Rattle.std.proofs.Common.{◌≡◌}
use Rattle.cob_graph.specs.Nesting.{◌&◌}
use Rattle.cob_graph.specs.Listing.{plain_found}
use Rattle.cob_graph.proofs.ListingLemmas.{found_from}
use Rattle.cob_graph.proofs.calls.Found.add_all.Given as goal

abbrev pub invariant-loop-statement : goal.invariant-loop-statement
invariant-loop-statement l =
    plain_found l.self & found_from l.para l.statements l.statement-index ≡ plain_found l.initial.self & found_from l.para l.statements 0
