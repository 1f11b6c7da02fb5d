use Rattle.std.proofs.Common.{◌≡◌}
use Rattle.cob_program.specs.Bounds.{exactly}
use Rattle.cob_typed_exprs.specs.Sizes.{bound_at, plain_size, small_product, small_sum_from}
use Rattle.cob_program.proofs.SumLoops.{factors_from, parts_from}
use Rattle.cob_typed_exprs.proofs.scope.Scope.+size.Given as goal

abbrev pub invariant-small_product-loop-factor : goal.invariant-small_product-loop-factor
invariant-small_product-loop-factor l =
    small_product (bound_at l.self) (plain_size l.size) (factors_from l.factors l.factor-index) ≡ small_product (bound_at l.self) (exactly 1) (factors_from l.factors 0)

abbrev pub invariant-small_parts-loop-part : goal.invariant-small_parts-loop-part
invariant-small_parts-loop-part l =
    small_sum_from (bound_at l.self) (plain_size l.size) (parts_from l.parts l.part-index) ≡ small_sum_from (bound_at l.self) (exactly 0) (parts_from l.parts 0)
