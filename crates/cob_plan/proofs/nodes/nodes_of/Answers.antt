use Rattle.std.proofs.Common.{◌≡◌, ◌≤◌, ◌<◌, ◌+◌, ◌∙◌, ap, subst, List, length, get_or, take, drop, arith}
use Rattle.std.specs.Prelude.{Contains}
use Rattle.std.specs.List.{All}
use Rattle.cob_graph.specs.declared.graph.Edge.{Edge}
use Rattle.cob_plan.specs.Plan.{IsPlanNode}
use Rattle.cob_plan.specs.Nodes.{at_front}
use Rattle.cob_plan.proofs.NodeList.{is_plan_node, nodes_more, all_nodes}
use Rattle.cob_plan.proofs.LaidNodes.{ways_of_one, followed_more}
use Rattle.cob_plan.proofs.nodes.nodes_of.Goals as goal

pub node_of-requires : goal.node_of-requires
node_of-requires c =
    let l = c.loop-node in
    let g = c.args.graph.now in
    let node = c.node-item.result in
    let ns = c.requires.0 in
    let laid = c.requires.1 in
    let within : l.node-index < length g.nodes = omega (arith, ap length c.get-node-items.ensures, c.loop-node-test.true) in
    let is : node ≡ get_or g.nodes l.node-index node =
    c.node-item.is ∙ ap (λ xs. get_or xs l.node-index node) c.get-node-items.ensures in
    let counted : l.number + 1 ≡ l.node-index + 1 = ap (λ n. n + 1) l.invariant.0 in
    let front = c.out_of-out.ensures.front
    ∙ ap (λ (es : List Edge). take (at_front (l.number + 1) (drop l.place es)) (drop l.place es)) c.get-edges.ensures in
    ways_of_one g ns laid l.node-index l.place (l.number + 1) node within is counted l.nodes.items
    (l.invariant.3 ns laid) c.out_of-out.result.now front

pub loop-node-preserved : goal.loop-node-preserved
loop-node-preserved c =
    let l = c.loop-node in
    let g = c.args.graph.now in
    let node = c.node-item.result in
    let plan_node = c.node_of.result in
    let out = c.out_of-out.result.now in
    let counted : l.number + 1 ≡ l.node-index + 1 = ap (λ n. n + 1) l.invariant.0 in
    let within : l.node-index < length g.nodes = omega (arith, ap length c.get-node-items.ensures, c.loop-node-test.true) in
    let is : node ≡ get_or g.nodes l.node-index node =
    c.node-item.is ∙ ap (λ xs. get_or xs l.node-index node) c.get-node-items.ensures in
    let all : All (Contains g.edges) out = subst (λ es. All (Contains es) out) c.get-edges.ensures c.out_of-out.ensures.among in
    let here : IsPlanNode g (l.number + 1) plan_node =
    is_plan_node g l.node-index (l.number + 1) node plan_node out within is counted c.node_of.ensures.statement
    c.node_of.ensures.starts c.out_of-out.ensures.leave all c.node_of.ensures.edges in
    let behind : l.place + length out ≤ length g.edges =
    omega (arith, ap length c.get-edges.ensures, c.out_of-out.ensures.within) in
    let front = c.out_of-out.ensures.front
    ∙ ap (λ (es : List Edge). take (at_front (l.number + 1) (drop l.place es)) (drop l.place es)) c.get-edges.ensures in (
      counted,
      behind,
      nodes_more g l.nodes.items c.push.new.self.items l.node-index (l.number + 1) plan_node l.invariant.2
          here counted c.in_ok-push.ensures.items,
      λ ns laid. followed_more g ns laid l.node-index l.place (l.number + 1) node within is counted l.nodes.items
          (l.invariant.3 ns laid) out front plan_node c.push.new.self.items l.invariant.2.all c.node_of.ensures.statement
          c.node_of.ensures.starts c.node_of.ensures.edges c.in_ok-push.ensures.items,
    )

pub returns-clause-nodes : goal.returns-clause-nodes
returns-clause-nodes c =
    let l = c.loop-node in
    all_nodes c.args.graph.now l.nodes.items l.node-index
    (omega (arith, ap length c.get-node-items.ensures, c.loop-node-test.false))
    (omega (arith, ap length c.get-node-items.ensures, l.auto.node-index-end)) l.invariant.2

pub returns-clause-laid : goal.returns-clause-laid
returns-clause-laid c = λ ns laid. (c.loop-node.invariant.3 ns laid).done
