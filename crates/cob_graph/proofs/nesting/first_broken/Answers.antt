use Rattle.std.proofs.Common.{sym, map, length}
use Rattle.std.proofs.lemmas.List.{length-map}
use Rattle.cob_graph.specs.Listing.{plain_call, plain_jump}
use Rattle.cob_graph.proofs.FirstLemmas.{first_is}
use Rattle.cob_graph.proofs.nesting.first_broken.Goals as goal

pub returns : goal.returns
returns c = λ all covers.
    first_is (record { calls = all; jumps = map plain_jump c.args.jumps.now }) (map plain_call c.args.calls.now)
    (length c.args.calls.now) _ _ _ _ c.told.result covers (sym (length-map c.args.calls.now plain_call))
    c.in_ok-reached.ensures.cycle c.in_ok-reached.ensures.crossing c.first_leaving-leaving.ensures c.first_reversed-reversed.ensures c.told.ensures
