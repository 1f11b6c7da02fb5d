use Rattle.std.proofs.Common.{◌≡◌, ◌++◌, map, drop}
use Rattle.cob_program.specs.SumView.{plain_factor}
use Rattle.cob_program.specs.SumView.{plain_part}
use Rattle.cob_program.specs.Sum.{factors_of}
use Rattle.cob_program.specs.Sum.{parts_of}
use Rattle.analyse_core.specs.Literals.{numbers_of, factors_literals, parts_literals}
use Rattle.analyse_core.proofs.sums.+sums.Given as goal

abbrev pub invariant-add_factors-loop-factor : goal.invariant-add_factors-loop-factor
invariant-add_factors-loop-factor l =
    numbers_of l.literals.items ++ factors_literals (factors_of (map plain_factor (drop l.factor-index l.factors)))
    ≡ numbers_of l.initial.literals.items ++ factors_literals (factors_of (map plain_factor (drop 0 l.factors)))

abbrev pub invariant-add_parts-loop-part : goal.invariant-add_parts-loop-part
invariant-add_parts-loop-part l =
    numbers_of l.literals.items ++ parts_literals (parts_of (map plain_part (drop l.part-index l.parts)))
    ≡ numbers_of l.initial.literals.items ++ parts_literals (parts_of (map plain_part (drop 0 l.parts)))
