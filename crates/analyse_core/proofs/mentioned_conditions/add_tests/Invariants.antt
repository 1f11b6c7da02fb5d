use Rattle.std.proofs.Common.{◌≡◌, ◌++◌, map, drop}
use Rattle.cob_program.specs.LogicView.{plain_logic}
use Rattle.analyse_core.specs.Mentions.{tests_mentions}
use Rattle.analyse_core.proofs.mentioned_conditions.add_tests.Given as goal

abbrev pub invariant-loop-test : goal.invariant-loop-test
invariant-loop-test l =
    l.mentions.items ++ tests_mentions (map plain_logic (drop l.test-index l.tests))
    ≡ l.initial.mentions.items ++ tests_mentions (map plain_logic (l.initial.tests))
