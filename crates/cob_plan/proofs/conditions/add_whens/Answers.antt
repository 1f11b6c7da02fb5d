use Rattle.std.proofs.Common.{◌+◌}
use Rattle.cob_runs.specs.Effects.{tests_in_whens}
use Rattle.cob_program.proofs.Loops.{added, nothing_left}
use Rattle.cob_plan.proofs.Loops.{whens_from, whens_step, whens_end}
use Rattle.cob_plan.proofs.conditions.add_whens.Goals as goal

pub loop-when-preserved : goal.loop-when-preserved
loop-when-preserved c =
    let l = c.loop-when in
    added _ _ _ (tests_in_whens (whens_from c.args.whens.now (l.when-index + 1))) _ _ c.in_ok-add_when.ensures
    (whens_step c.args.whens.now l.when-index c.when-item.result c.loop-when-test.true c.when-item.is) l.invariant

pub returns : goal.returns
returns c =
    let l = c.loop-when in
    nothing_left _ _ (tests_in_whens (whens_from c.args.whens.now l.when-index))
    (whens_end c.args.whens.now l.when-index c.loop-when-test.false) l.invariant
