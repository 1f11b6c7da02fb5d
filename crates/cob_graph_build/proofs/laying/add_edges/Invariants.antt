use Rattle.std.proofs.Common.{◌≡◌, ◌++◌, drop}
use Rattle.cob_graph.specs.Graphs.{edges_from}
use Rattle.cob_graph_build.proofs.laying.add_edges.Given as goal

abbrev pub invariant-loop-action : goal.invariant-loop-action
invariant-loop-action l = l.edges.items ++ edges_from l.from
    (drop l.action-index l.out) ≡ l.initial.edges.items ++ edges_from l.from l.out
