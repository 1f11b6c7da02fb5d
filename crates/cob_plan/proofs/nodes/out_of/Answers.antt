use Rattle.std.proofs.Common.{length, ◌-◌}
use Rattle.cob_plan.proofs.NodeList.{among}
use Rattle.cob_plan.proofs.nodes.out_of.Goals as goal

pub returns-clause-among : goal.returns-clause-among
returns-clause-among c =
    among c.args.edges.now c.args.place c.leaving.result (length c.args.edges.now - c.args.place)
