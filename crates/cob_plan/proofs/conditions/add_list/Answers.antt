use Rattle.std.proofs.Common.{◌+◌}
use Rattle.cob_runs.specs.Effects.{tests_in_list}
use Rattle.cob_program.proofs.Loops.{added, nothing_left}
use Rattle.cob_plan.proofs.Loops.{logic_list_from, logic_list_step, logic_list_end}
use Rattle.cob_plan.proofs.conditions.add_list.Goals as goal

pub loop-logic-preserved : goal.loop-logic-preserved
loop-logic-preserved c =
    let l = c.loop-logic in
    added _ _ _ (tests_in_list (logic_list_from c.args.list.now (l.logic-index + 1))) _ _ c.in_ok-add_logic.ensures
    (logic_list_step c.args.list.now l.logic-index c.logic-item.result c.loop-logic-test.true c.logic-item.is)
    l.invariant

pub returns : goal.returns
returns c =
    let l = c.loop-logic in
    nothing_left _ _ (tests_in_list (logic_list_from c.args.list.now l.logic-index))
    (logic_list_end c.args.list.now l.logic-index c.loop-logic-test.false) l.invariant
