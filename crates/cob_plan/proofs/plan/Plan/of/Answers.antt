use Rattle.cob_program.specs.ActView.{plain_program}
use Rattle.cob_plan.proofs.Planned.{laid_nodes, laid_out}
use Rattle.cob_plan.proofs.Stepped.{has_steps}
use Rattle.cob_plan.proofs.plan.Plan.of.Goals as goal

pub nodes_of-requires : goal.nodes_of-requires
nodes_of-requires c =
    let p = plain_program c.args.program.now in
    let g = c.args.graph.now in
    (laid_nodes p g c.requires.whole c.requires.graph, laid_out p g c.requires.whole c.requires.graph)

pub returns-clause-steps : goal.returns-clause-steps
returns-clause-steps c =
    let p = plain_program c.args.program.now in
    let g = c.args.graph.now in
    has_steps p g c.requires.whole c.requires.graph c.in_ok-nodes.nodes.items c.in_ok-nodes.ensures.nodes
    (c.in_ok-nodes.ensures.laid (laid_nodes p g c.requires.whole c.requires.graph)
    (laid_out p g c.requires.whole c.requires.graph)) c.in_ok-statements.statements.items c.in_ok-statements.ensures.listed
