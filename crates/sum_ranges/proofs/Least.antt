-- What follows from a range that is the least.
use Rattle.std.proofs.Common.{Option, Some, None, refl, subst, ◌∙◌, arith}
use Rattle.std.specs.Prelude.{IsSomeAnd}
use Rattle.std.proofs.lemmas.Int.{ints}
use Rattle.dec_num.specs.declared.types.Scaled.{Scaled}
use Rattle.cob_program.specs.Values.{◌>>=◌}
use Rattle.cob_program.specs.Bounds.{Bound, IsWithin}
use Rattle.sum_ranges.specs.declared.ranged.Ranged.{Ranged}
use Rattle.sum_ranges.specs.Ranged.{decimal, point, IsIn, IsOrdered, IsNarrower, IsBelow}
use Rattle.sum_ranges.specs.Results.{IsResult, IsLeastRange, IsRangeOf}
use Rattle.sum_ranges.specs.Sizes.{IsRangeWithin}

-- ---- numbers in ranges

pub ordered_of : (v : Scaled) (r : Ranged) → IsIn v r → IsOrdered r
ordered_of v r h = omega (arith, ints, h.held.0, h.held.1)

pub point_in : (v : Scaled) → IsIn v (point v)
point_in v = record { held = (omega (arith, ints), omega (arith, ints)); scale = refl }

pub in_wider : (v : Scaled) (a b : Ranged) → IsNarrower a b → IsIn v a → IsIn v b
in_wider v a b n h = record {
  held = (omega (arith, ints, n.low, h.held.0), omega (arith, ints, n.high, h.held.1));
  scale = h.scale ∙ n.scale;
}

pub in_least : (R : Scaled → Type 0) (r : Ranged) (x : Scaled) → IsLeastRange R r → R x → IsIn x r
in_least R r x h k = record {
  held = h.least.holds x.units (subst (λ s. R (decimal x.units s)) (h.scale x k) k);
  scale = h.scale x k;
}

pub least_ordered : (R : Scaled → Type 0) (r : Ranged) → IsLeastRange R r → IsOrdered r
least_ordered R r h = (h.least.holds r.units.low h.least.low_is_one).1

-- ---- one range within another

pub result_in_wider : (operation : Scaled → Scaled → Option Scaled) (a b c d : Ranged) → IsNarrower a c → IsNarrower b d → (x : Scaled) → IsResult operation a b x → IsResult operation c d x
result_in_wider operation a b c d n m x (v, w, h, k, e) = (v, w, in_wider v a c n h, in_wider w b d m k, e)

pub least_narrower : (R S : Scaled → Type 0) (r s : Ranged) → ((x : Scaled) → R x → S x) → IsLeastRange R r → IsLeastRange S s → IsNarrower r s
least_narrower R S r s within h k =
    let low = in_least S s (decimal r.units.low r.scale) k (within (decimal r.units.low r.scale) h.least.low_is_one) in
    let high = in_least S s (decimal r.units.high r.scale) k (within (decimal r.units.high r.scale) h.least.high_is_one) in
    record { ordered = least_ordered R r h; low = low.held.0; high = high.held.1; scale = low.scale }

pub range_below : (R S : Scaled → Type 0) (o p : Option Ranged) → ((x : Scaled) → R x → S x) → IsRangeOf R o → IsRangeOf S p → IsBelow o p
range_below R S None p within h k = tt
range_below R S (Some r) None within h k = k (decimal r.units.low r.scale) (within (decimal r.units.low r.scale) h.least.low_is_one)
range_below R S (Some r) (Some s) within h k = least_narrower R S r s within h k

-- ---- one after the other

pub result_in : (R : Scaled → Type 0) (o : Option Ranged) (x : Scaled) → IsRangeOf R o → R x → IsSomeAnd o (IsIn x)
result_in R None x h k = h x k
result_in R (Some r) x h k = in_least R r x h k

pub and_then : (o : Option Ranged) (P Q : Ranged → Type 0) (next : Ranged → Option Ranged) → IsSomeAnd o P → ((a : Ranged) → P a → IsSomeAnd (next a) Q) → IsSomeAnd (o >>= next) Q
and_then None P Q next h k = h
and_then (Some a) P Q next h k = k a h

pub below_then : (o p : Option Ranged) (f g : Ranged → Option Ranged) → IsBelow o p → ((a b : Ranged) → IsNarrower a b → IsBelow (f a) (g b)) → IsBelow (o >>= f) (p >>= g)
below_then None p f g h k = tt
below_then (Some a) None f g h k = absurd h
below_then (Some a) (Some b) f g h k = k a b h

-- ---- within bounds

pub in_within : (r : Ranged) (b : Bound) (v : Scaled) → IsRangeWithin r b → IsIn v r → IsWithin v b
in_within r b v h k = record { most = omega (arith, ints, h.low, h.high, k.held.0, k.held.1); scale = k.scale ∙ h.scale }

pub least_within : (R : Scaled → Type 0) (r : Ranged) (b : Bound) → ((x : Scaled) → R x → IsWithin x b) → IsLeastRange R r → IsRangeWithin r b
least_within R r b within h =
    let low = within (decimal r.units.low r.scale) h.least.low_is_one in
    let high = within (decimal r.units.high r.scale) h.least.high_is_one in
    record { ordered = least_ordered R r h; low = low.most; high = high.most; scale = low.scale }
