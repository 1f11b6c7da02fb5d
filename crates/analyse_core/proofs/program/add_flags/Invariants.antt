use Rattle.std.proofs.Common.{◌≡◌, ◌++◌, drop}
use Rattle.analyse_core.specs.Literals.{numbers_of, flags_literals}
use Rattle.analyse_core.proofs.program.add_flags.Given as goal

abbrev pub invariant-loop-flag : goal.invariant-loop-flag
invariant-loop-flag l =
    numbers_of l.literals.items ++ flags_literals l.place (drop l.flag-index l.flags)
    ≡ numbers_of l.initial.literals.items ++ flags_literals l.initial.place (l.initial.flags)
