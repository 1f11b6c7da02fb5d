use Rattle.std.proofs.Common.{◌≡◌}
use Rattle.cob_runs.specs.Computing.{are_numeric, items_in_parts, items_in_factors}
use Rattle.cob_program.proofs.SumLoops.{factors_from, parts_from}
use Rattle.cob_calc.proofs.contents.Contents.+operands.Given as goal

abbrev pub invariant-are_factors_numeric-loop-factor : goal.invariant-are_factors_numeric-loop-factor
invariant-are_factors_numeric-loop-factor l =
    are_numeric l.self.layout l.self.storage (items_in_factors (factors_from l.factors l.factor-index)) ≡ are_numeric l.self.layout l.self.storage (items_in_factors (factors_from l.factors 0))

abbrev pub invariant-are_parts_numeric-loop-part : goal.invariant-are_parts_numeric-loop-part
invariant-are_parts_numeric-loop-part l =
    are_numeric l.self.layout l.self.storage (items_in_parts (parts_from l.parts l.part-index)) ≡ are_numeric l.self.layout l.self.storage (items_in_parts (parts_from l.parts 0))
