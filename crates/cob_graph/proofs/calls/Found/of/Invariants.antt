use Rattle.std.proofs.Common.{◌≡◌}
use Rattle.cob_graph.specs.Nesting.{◌&◌}
use Rattle.cob_graph.specs.Listing.{plain_found}
use Rattle.cob_graph.proofs.ListingLemmas.{paras_from}
use Rattle.cob_graph.proofs.calls.Found.of.Given as goal

abbrev pub invariant-loop-para : goal.invariant-loop-para
invariant-loop-para l = plain_found l.found & paras_from l.program.paras l.para ≡ paras_from l.program.paras 0
