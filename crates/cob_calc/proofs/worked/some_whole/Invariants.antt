use Rattle.std.proofs.Common.{◌≡◌, drop}
use Rattle.cob_calc.specs.Receiving.{some_whole}
use Rattle.cob_calc.proofs.worked.some_whole.Given as goal

abbrev pub invariant-loop-target : goal.invariant-loop-target
invariant-loop-target l = some_whole (drop l.target-index l.targets) ≡ some_whole l.targets
