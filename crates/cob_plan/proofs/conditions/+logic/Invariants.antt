use Rattle.std.proofs.Common.{◌≡◌, ◌++◌}
use Rattle.cob_runs.specs.Effects.{tests_among}
use Rattle.cob_plan.specs.Listing.{plain_tests}
use Rattle.cob_plan.proofs.Loops.{logics_from}
use Rattle.cob_plan.proofs.conditions.+logic.Given as goal

abbrev pub invariant-add_logics-loop-part : goal.invariant-add_logics-loop-part
invariant-add_logics-loop-part l = plain_tests l.tests.items ++ tests_among (logics_from l.parts l.part-index)
    ≡ plain_tests l.initial.tests.items ++ tests_among (logics_from l.parts 0)
