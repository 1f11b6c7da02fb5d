-- What is worked out of small operands is small.
use Rattle.std.proofs.Common.{◌≡◌, ◌≤◌, ◌∙◌, ℕ, Bool, true, false, Option, Some, None, refl, sym}
use Rattle.std.specs.Prelude.{is_some, option_map}
use Rattle.cob_program.specs.Bounds.{Bound, sum_bound, product_bound, is_small}
use Rattle.cob_typed_exprs.specs.declared.bounds.Size.{Size}
use Rattle.cob_typed_exprs.specs.Sizes.{plain_size, bound_if}
use Rattle.sum_ranges.specs.declared.ranged.Ranged.{Ranged}
use Rattle.sum_ranges.specs.SumRanges.{plus_range, product_range}
use Rattle.sum_ranges.specs.Sizes.{IsSmallRange, IsRangeWithin}
use Rattle.sum_ranges.specs.Working.{CanAddRanges, CanMultiplyRanges}
use Rattle.transfer_ranges.specs.Sizes.{IsSmallRemainder}
use Rattle.transfer_ranges.specs.Bounded.{cut_bound, is_small_rest_at}
use Rattle.transfer_ranges.proofs.Bounding.{small_sum, small_product, small_remainder}

-- there is a size where the bound is small
pub sized : (small : Bool) (b : Bound) (s : Option Size) → option_map plain_size s ≡ bound_if small b → is_some s ≡ small
sized true b None e = absurd cc
sized true b (Some s) e = refl
sized false b None e = refl
sized false b (Some s) e = absurd cc

-- ---- the rule of bounds as a test that was answered

pub added : (a b : Ranged) (c d : Bound) (t : Bool) → IsRangeWithin a c → IsRangeWithin b d → t ≡ is_small (sum_bound c d) → t ≡ true → CanAddRanges a b × IsSmallRange (plus_range a b)
added a b c d t h k e told = small_sum a b c d h k (sym e ∙ told)

pub multiplied : (a b : Ranged) (c d : Bound) (t : Bool) → IsRangeWithin a c → IsRangeWithin b d → is_small c ≡ true → is_small d ≡ true → t ≡ is_small (product_bound c d) → t ≡ true → CanMultiplyRanges a b × IsSmallRange (product_range a b)
multiplied a b c d t h k f g e told = small_product a b c d h k f g (sym e ∙ told)

pub left_over : (top under : Ranged) (n d : Bound) (scale : ℕ) (t : Bool) → IsRangeWithin top n → IsRangeWithin under d → scale ≤ 18 → is_small n ≡ true → is_small d ≡ true → t ≡ is_small_rest_at n d (cut_bound n d scale) → t ≡ true → IsSmallRemainder top under scale
left_over top under n d scale t h k few f g e told = small_remainder top under n d scale h k few f g (sym e ∙ told)
