use Rattle.std.proofs.Common.{◌≡◌, ◌++◌}
use Rattle.cob_runs.specs.Effects.{tests_in_list}
use Rattle.cob_plan.specs.Listing.{plain_tests}
use Rattle.cob_plan.proofs.Loops.{logic_list_from}
use Rattle.cob_plan.proofs.conditions.add_list.Given as goal

abbrev pub invariant-loop-logic : goal.invariant-loop-logic
invariant-loop-logic l = plain_tests l.tests.items ++ tests_in_list (logic_list_from l.list l.logic-index)
    ≡ plain_tests l.initial.tests.items ++ tests_in_list (logic_list_from l.list 0)
