use Rattle.std.proofs.Common.{◌+◌, ap}
use Rattle.cob_program.specs.LogicView.{plain_logic, plain_logics}
use Rattle.cob_program.proofs.Loops.{item_step}
use Rattle.cob_graph.specs.Laid.{tests_in, tests_among}
use Rattle.cob_graph.specs.Limits.{most_told}
use Rattle.cob_graph_build.proofs.Loops.{logics_from}
use Rattle.cob_graph_build.proofs.SizeLoops.{summed}
use Rattle.cob_graph_build.proofs.counting.+tests.Goals as goal

pub tests_among-loop-part-preserved : goal.tests_among-loop-part-preserved
tests_among-loop-part-preserved t c =
    let xs = c.args.parts.now in
    let i = c.loop-part.part-index in
    let x = c.part-item.result in
    summed most_told _ _ _ (tests_in (plain_logic x)) (tests_among (logics_from xs i)) (tests_among (logics_from xs (i + 1))) _
    c.plus-sum.ensures c.tests_in.ensures
    (ap (λ ys. tests_among (plain_logics ys)) (item_step xs i x c.loop-part-test.true c.part-item.is)) c.loop-part.invariant
