use Rattle.std.proofs.Common.{◌≡◌, ◌++◌, drop}
use Rattle.analyse_core.specs.Literals.{numbers_of, pairs_literals}
use Rattle.analyse_core.proofs.literals.add_pairs.Given as goal

abbrev pub invariant-loop-pair : goal.invariant-loop-pair
invariant-loop-pair l =
    numbers_of l.literals.items ++ pairs_literals (drop l.pair-index l.pairs)
    ≡ numbers_of l.initial.literals.items ++ pairs_literals (l.initial.pairs)
