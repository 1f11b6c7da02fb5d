use Rattle.std.proofs.Common.{◌≡◌, ◌-◌}
use Rattle.cob_graph.specs.Places.{first_of_para}
use Rattle.cob_graph_build.specs.Tables.{lay_paras}
use Rattle.cob_graph_build.specs.Growing.{plan, copies_of, copied_of}
use Rattle.cob_graph_build.proofs.within.Within.para_node.Given as goal

abbrev pub invariant-loop-from : goal.invariant-loop-from
invariant-loop-from l =
    first_of_para l.skip (lay_paras (plan l.self) (copies_of l.self) l.from (l.self.end - l.from)) l.at
    l.self.next ≡ (copied_of l.self).para l.place
