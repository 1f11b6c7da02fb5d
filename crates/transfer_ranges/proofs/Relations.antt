-- What relations leave of their sides.
use Rattle.std.proofs.Common.{◌≡◌, Bool, true}
use Rattle.std.specs.Prelude.{IsSomeAnd, IfSome}
use Rattle.dec_num.specs.declared.types.Scaled.{Scaled}
use Rattle.interval_domain.specs.Bounds.{Holds}
use Rattle.cob_tree.specs.declared.token.Rel.{Rel}
use Rattle.sum_ranges.specs.declared.ranged.Ranged.{Ranged}
use Rattle.sum_ranges.specs.Ranged.{IsIn, IsNarrower}
use Rattle.sum_ranges.specs.Results.{IsRangeOf}
use Rattle.sum_ranges.proofs.Least.{in_wider, range_below}
use Rattle.transfer_ranges.specs.Kept.{some_in, UnitsBelow, IsPartOf}
use Rattle.transfer_ranges.specs.Sides.{stands, left_kept, right_kept}
use Rattle.transfer_ranges.specs.Meaning.{IsLeftOf, IsRightOf}
use Rattle.transfer_ranges.proofs.Least.{some_of, one_of_some, kept_range, kept_is_range, kept_holds, kept_part, units_below}

module _ (r : Rel) (wanted : Bool) where
  pub left_least : (a b : Ranged) → IsRangeOf (IsLeftOf r wanted a b) (kept_range (λ x. some_in (λ y. stands r wanted x y) b) a)
  left_least a b =
      kept_is_range (IsLeftOf r wanted a b) (λ x. some_in (λ y. stands r wanted x y) b) a
      (λ x k. (k.0, some_of (λ y. stands r wanted x y) b k.1.0 k.1.1 k.1.2))
      (λ x h e. (h, one_of_some (λ y. stands r wanted x y) b e))

  pub right_least : (a b : Ranged) → IsRangeOf (IsRightOf r wanted a b) (kept_range (λ y. some_in (λ x. stands r wanted x y) a) b)
  right_least a b =
      kept_is_range (IsRightOf r wanted a b) (λ y. some_in (λ x. stands r wanted x y) a) b
      (λ y k. (k.0, some_of (λ x. stands r wanted x y) a k.1.0 k.1.1 k.1.2))
      (λ y h e. (h, one_of_some (λ x. stands r wanted x y) a e))

  pub left_holds : (a b : Ranged) (x y : Scaled) → IsIn x a → IsIn y b → stands r wanted x y ≡ true → IsSomeAnd (left_kept r wanted a b) (λ i. Holds i x.units)
  left_holds a b x y h k e = kept_holds (λ v. some_in (λ w. stands r wanted v w) b) a x h (some_of (λ w. stands r wanted x w) b y k e)

  pub right_holds : (a b : Ranged) (x y : Scaled) → IsIn x a → IsIn y b → stands r wanted x y ≡ true → IsSomeAnd (right_kept r wanted a b) (λ i. Holds i y.units)
  right_holds a b x y h k e = kept_holds (λ w. some_in (λ v. stands r wanted v w) a) b y k (some_of (λ v. stands r wanted v y) a x h e)

  pub left_part : (a b : Ranged) → IfSome (left_kept r wanted a b) (λ i. IsPartOf i a.units)
  left_part a b = kept_part (λ x. some_in (λ y. stands r wanted x y) b) a

  pub right_part : (a b : Ranged) → IfSome (right_kept r wanted a b) (λ i. IsPartOf i b.units)
  right_part a b = kept_part (λ y. some_in (λ x. stands r wanted x y) a) b

  pub left_below : (a b c d : Ranged) → IsNarrower a c → IsNarrower b d → UnitsBelow (left_kept r wanted a b) (left_kept r wanted c d)
  left_below a b c d n m =
      units_below (left_kept r wanted a b) (left_kept r wanted c d) a.scale c.scale
      (range_below (IsLeftOf r wanted a b) (IsLeftOf r wanted c d) _ _
      (λ x k. (in_wider x a c n k.0, (k.1.0, in_wider k.1.0 b d m k.1.1, k.1.2))) (left_least a b) (left_least c d))

  pub right_below : (a b c d : Ranged) → IsNarrower a c → IsNarrower b d → UnitsBelow (right_kept r wanted a b) (right_kept r wanted c d)
  right_below a b c d n m =
      units_below (right_kept r wanted a b) (right_kept r wanted c d) b.scale d.scale
      (range_below (IsRightOf r wanted a b) (IsRightOf r wanted c d) _ _
      (λ x k. (in_wider x b d m k.0, (k.1.0, in_wider k.1.0 a c n k.1.1, k.1.2))) (right_least a b) (right_least c d))
