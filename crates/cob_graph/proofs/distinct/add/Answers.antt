use Rattle.cob_graph.proofs.CoverLemmas.{added_one}
use Rattle.cob_graph.proofs.distinct.add.Goals as goal

pub returns : goal.returns
returns c = added_one c.args.calls.now.items c.push.new.self.items c.args.call c.in_ok-push.ensures.items
