use Rattle.std.proofs.Common.{◌≡◌}
use Rattle.cob_program.proofs.SumLoops.{factors_from}
use Rattle.sum_forms.specs.Literals.{are_literals}
use Rattle.sum_forms.proofs.literals.are_literals.Given as goal

abbrev pub invariant-loop-factor : goal.invariant-loop-factor
invariant-loop-factor l = are_literals (factors_from l.factors l.factor-index) ≡ are_literals (factors_from l.factors 0)
