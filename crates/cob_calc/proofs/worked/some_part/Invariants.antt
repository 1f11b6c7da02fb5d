use Rattle.std.proofs.Common.{◌≡◌, drop}
use Rattle.cob_calc.specs.Receiving.{some_part}
use Rattle.cob_calc.proofs.worked.some_part.Given as goal

abbrev pub invariant-loop-target : goal.invariant-loop-target
invariant-loop-target l = some_part (drop l.target-index l.targets) ≡ some_part l.targets
