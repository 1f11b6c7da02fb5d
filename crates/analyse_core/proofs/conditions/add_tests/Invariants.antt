use Rattle.std.proofs.Common.{◌≡◌, ◌++◌, map, drop}
use Rattle.cob_program.specs.LogicView.{plain_logic}
use Rattle.analyse_core.specs.Literals.{numbers_of, tests_literals}
use Rattle.analyse_core.proofs.conditions.add_tests.Given as goal

abbrev pub invariant-loop-test : goal.invariant-loop-test
invariant-loop-test l =
    numbers_of l.literals.items ++ tests_literals (map plain_logic (drop l.test-index l.tests))
    ≡ numbers_of l.initial.literals.items ++ tests_literals (map plain_logic (l.initial.tests))
