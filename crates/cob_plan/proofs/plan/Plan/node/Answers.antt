use Rattle.std.proofs.Common.{◌≡◌, ◌-◌, arith, rules}
use Rattle.std.specs.Prelude.{slice_get}
use Rattle.std.specs.Option.{option_copied}
use Rattle.cob_plan.proofs.NodeList.{node_there}
use Rattle.cob_plan.proofs.plan.Plan.node.Goals as goal

pub returns-clause-is : goal.returns-clause-is
returns-clause-is c = λ g are.
    let is : option_copied c.node_at_place.result ≡ slice_get c.args.self.now.nodes.items (c.args.number - 1) = search rules in
    node_there g c.args.self.now.nodes.items c.node_at_place.result (c.args.number - 1) c.args.number are is (omega arith)
