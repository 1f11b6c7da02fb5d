use Rattle.std.proofs.Common.{◌+◌}
use Rattle.cob_runs.specs.Effects.{tests_among}
use Rattle.cob_program.proofs.Loops.{added, nothing_left}
use Rattle.cob_plan.proofs.Loops.{logics_from, logics_step, logics_end}
use Rattle.cob_plan.proofs.conditions.+logic.Goals as goal

pub add_logics-loop-part-preserved : goal.add_logics-loop-part-preserved
add_logics-loop-part-preserved t c =
    let l = c.loop-part in
    added _ _ _ (tests_among (logics_from c.args.parts.now (l.part-index + 1))) _ _ c.in_ok-add_logic.ensures
    (logics_step c.args.parts.now l.part-index c.part-item.result c.loop-part-test.true c.part-item.is) l.invariant

pub add_logics-returns : goal.add_logics-returns
add_logics-returns t c =
    let l = c.loop-part in
    nothing_left _ _ (tests_among (logics_from c.args.parts.now l.part-index))
    (logics_end c.args.parts.now l.part-index c.loop-part-test.false) l.invariant
