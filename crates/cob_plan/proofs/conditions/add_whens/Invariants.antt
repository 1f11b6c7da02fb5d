use Rattle.std.proofs.Common.{◌≡◌, ◌++◌}
use Rattle.cob_runs.specs.Effects.{tests_in_whens}
use Rattle.cob_plan.specs.Listing.{plain_tests}
use Rattle.cob_plan.proofs.Loops.{whens_from}
use Rattle.cob_plan.proofs.conditions.add_whens.Given as goal

abbrev pub invariant-loop-when : goal.invariant-loop-when
invariant-loop-when l = plain_tests l.tests.items ++ tests_in_whens (whens_from l.whens l.when-index)
    ≡ plain_tests l.initial.tests.items ++ tests_in_whens (whens_from l.whens 0)
