use Rattle.std.proofs.Common.{◌≡◌, drop}
use Rattle.cob_program.specs.SumView.{plain_sum}
use Rattle.cob_typed_verbs.specs.Arithmetic.{are_small_results}
use Rattle.cob_typed_verbs.proofs.arithmetic.are_small_results.Given as goal

abbrev pub invariant-loop-target : goal.invariant-loop-target
invariant-loop-target l = are_small_results l.scope (plain_sum l.common) (drop l.target-index l.targets) ≡ are_small_results l.scope (plain_sum l.common) l.targets
