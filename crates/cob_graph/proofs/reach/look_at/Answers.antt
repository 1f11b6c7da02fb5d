use Rattle.cob_graph.proofs.ReachLemmas.{hull_ends, looked_at}
use Rattle.cob_graph.proofs.reach.look_at.Goals as goal

pub look-requires-clause-end : goal.look-requires-clause-end
look-requires-clause-end c =
    hull_ends c.args.calls.now c.args.hulls.now c.args.place (record { from = 0; end = 0 }) c.requires.hulls c.requires.place

pub returns : goal.returns
returns c =
    looked_at c.args.calls.now c.args.hulls.now c.args.place
    (record { line = 0; para = 0; span = record { first = 0; last = 0 } }) (record { from = 0; end = 0 }) c.args.marks.now c.look.new.marks
    c.args.found.now.items c.look.new.found.items c.requires.hulls c.requires.place c.in_ok-look.ensures
