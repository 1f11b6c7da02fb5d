use Rattle.std.proofs.Common.{◌≡◌, ◌++◌, drop}
use Rattle.cob_program.specs.LogicView.{plain_logics}
use Rattle.analyse_core.specs.Literals.{numbers_of, logics_literals}
use Rattle.analyse_core.proofs.conditions.+conditions.Given as goal

abbrev pub invariant-add_logics-loop-part : goal.invariant-add_logics-loop-part
invariant-add_logics-loop-part l =
    numbers_of l.literals.items ++ logics_literals (plain_logics (drop l.part-index l.parts))
    ≡ numbers_of l.initial.literals.items ++ logics_literals (plain_logics (drop 0 l.parts))
