use Rattle.std.proofs.Common.{◌≡◌, drop}
use Rattle.cob_program.specs.Bounds.{Bound}
use Rattle.cob_typed_exprs.specs.Sizes.{plain_size, capped}
use Rattle.cob_typed_verbs.specs.Arithmetic.{are_small_remainders}
use Rattle.cob_typed_verbs.proofs.arithmetic.are_small_remainders.Given as goal

abbrev pub invariant-loop-target : goal.invariant-loop-target
invariant-loop-target l = (above below : Bound) → plain_size l.n ≡ capped above → plain_size l.d ≡ capped below →
    are_small_remainders l.scope above below (drop l.target-index l.targets) ≡ are_small_remainders l.scope above below l.targets
