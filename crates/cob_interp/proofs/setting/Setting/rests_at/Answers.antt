use Rattle.std.proofs.Common.{◌==◌, ℕ, true, false, length, ap, sym, ◌∙◌}
use Rattle.cob_plan.specs.Stepping.{rests_in}
use Rattle.cob_interp.proofs.FitLemmas.{graph_goes, rests_here}
use Rattle.cob_interp.proofs.setting.Setting.rests_at.Goals as goal

pub returns-in-None-clause-same : goal.returns-in-None-clause-same
returns-in-None-clause-same c =
    ap (rests_in (length c.args.self.now.plan.nodes.items) c.args.node) c.in-None.ensures.at

pub returns-then-plan_node-clause-same : goal.returns-then-plan_node-clause-same
returns-then-plan_node-clause-same c =
    c.if-plan_node.true ∙ rests_here c.args.self.now.plan.nodes.items c.args.node c.in-Some.plan_node.now true
    c.in-Some.ensures.at c.if-plan_node.true

pub returns-else-plan_node-clause-same : goal.returns-else-plan_node-clause-same
returns-else-plan_node-clause-same c =
    ap (λ (n : ℕ). c.args.node == n) (c.len.ensures ∙ c.args.self.now.plan.nodes.ok.0) ∙ rests_here c.args.self.now.plan.nodes.items c.args.node
    c.in-Some.plan_node.now false c.in-Some.ensures.at c.if-plan_node.false

pub returns-else-plan_node-clause-graph : goal.returns-else-plan_node-clause-graph
returns-else-plan_node-clause-graph c is =
    graph_goes c.args.self.now.graph.now c.args.self.now.plan.nodes.items c.args.node c.requires.nodes
    (sym (ap (λ (n : ℕ). c.args.node == n) (c.len.ensures ∙ c.args.self.now.plan.nodes.ok.0) ∙ rests_here c.args.self.now.plan.nodes.items c.args.node
    c.in-Some.plan_node.now false c.in-Some.ensures.at c.if-plan_node.false) ∙ is)
