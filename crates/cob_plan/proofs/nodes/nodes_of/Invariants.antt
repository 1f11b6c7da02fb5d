use Rattle.std.proofs.Common.{◌≡◌, ◌≤◌, List, length}
use Rattle.cob_graph.specs.Nodes.{Noded}
use Rattle.cob_plan.specs.Nodes.{AreFirst, IsLaidOut}
use Rattle.cob_plan.proofs.LaidNodes.{IsFollowed}
use Rattle.cob_plan.proofs.nodes.nodes_of.Given as goal

abbrev pub invariant-loop-node : goal.invariant-loop-node
invariant-loop-node l =
    (l.number ≡ l.node-index)
    × (l.place ≤ length l.graph.edges)
    × AreFirst l.graph l.node-index l.nodes.items
    × ((ns : List Noded) → IsLaidOut l.graph ns → IsFollowed l.graph ns l.node-index l.place l.nodes.items)
