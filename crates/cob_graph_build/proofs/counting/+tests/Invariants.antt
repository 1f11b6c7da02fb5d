use Rattle.std.proofs.Common.{◌≡◌, ◌+◌, min}
use Rattle.cob_graph.specs.Laid.{tests_among}
use Rattle.cob_graph.specs.Limits.{most_told}
use Rattle.cob_graph_build.proofs.Loops.{logics_from}
use Rattle.cob_graph_build.proofs.counting.+tests.Given as goal

abbrev pub invariant-tests_among-loop-part : goal.invariant-tests_among-loop-part
invariant-tests_among-loop-part l = min (l.sum + tests_among (logics_from l.parts l.part-index))
    most_told ≡ min (tests_among (logics_from l.parts 0)) most_told
