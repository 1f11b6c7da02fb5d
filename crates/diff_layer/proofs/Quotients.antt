-- Quotients that the arithmetic works with.
use Rattle.std.proofs.Common.{◌≡◌, ◌||◌, Bool, true, false, if◌then◌else◌, Option, Some, None, is_some, ℤ, pos, refl, sym, ap, subst, ◌∙◌, arith}
use Rattle.std.specs.Prelude.{int_le, int_lt, neg_ℤ, IfSome}
use Rattle.std.specs.Option.{option_map}
use Rattle.std.proofs.lemmas.Int.{ints}
use Rattle.dec_num.specs.declared.types.Mode.TheVariants.{Trunc}
use Rattle.interval_domain.specs.declared.bounds.Interval.{Interval}
use Rattle.interval_domain.specs.Corners.{either_of}
use Rattle.interval_domain.specs.Results.{IsQuotient}
use Rattle.sum_ranges.proofs.Operations.{LeastIfAny, quotients_least}
use Rattle.cob_program.specs.Values.{quotient_scale}
use Rattle.sum_ranges.specs.declared.ranged.Ranged.{Ranged}
use Rattle.sum_ranges.specs.Ranged.{ranged}
use Rattle.sum_ranges.specs.SumRanges.{shift, quotients, quotient_range}
use Rattle.sum_ranges.specs.Sizes.{IsSmallRange}
use Rattle.sum_ranges.specs.Working.{CanDivideRanges}

pub quotient_small : (a b : Ranged) (o : Option Ranged) → CanDivideRanges a b → o ≡ quotient_range a b → IfSome o IsSmallRange
quotient_small a b o can e = subst (λ (q : Option Ranged). IfSome q IsSmallRange) (sym e) (go (quotients (pos (shift a b)) a.units b.units) (quotients_least (pos (shift a b)) a.units b.units can.left.ordered can.right.ordered))
  where
    go : (q : Option Interval) → LeastIfAny (IsQuotient a.units b.units (pos (shift a b)) Trunc) q → IfSome (option_map (λ i. ranged i (quotient_scale a.scale b.scale)) q) IsSmallRange
    go None least = tt
    go (Some i) least = record {
      units = record {
        ordered = (least.holds i.low least.low_is_one).1;
        low = can.quotients i.low least.low_is_one;
        high = can.quotients i.high least.high_is_one;
      };
      scale = can.scale;
    }

-- ---- whether there is one

either_there : (above below : Bool) (a b : Interval) → is_some (either_of (if above then Some a else None) (if below then Some b else None)) ≡ (above || below)
either_there true true a b = refl
either_there true false a b = refl
either_there false true a b = refl
either_there false false a b = refl

mapped_there : {A B : Type 0} (f : A → B) (o : Option A) → is_some (option_map f o) ≡ is_some o
mapped_there f None = refl
mapped_there f (Some a) = refl

below_zero : (low : ℤ) → int_lt low (pos 0) ≡ int_le (pos 1) (neg_ℤ low)
below_zero low = grind (arith, ints)

-- where what divides has no number above 0, there is a quotient if it has one below
pub quotient_below : (a b : Ranged) (low high : ℤ) → low ≡ b.units.low → high ≡ b.units.high → int_le (pos 1) high ≡ false →
    int_lt low (pos 0) ≡ is_some (quotient_range a b)
quotient_below a b low high e f none =
    let up = pos (shift a b) in
    let there = mapped_there (λ i. ranged i (quotient_scale a.scale b.scale)) (quotients up a.units b.units)
    ∙ either_there (int_le (pos 1) b.units.high) (int_le (pos 1) (neg_ℤ b.units.low)) _ _ in
    let missing : int_le (pos 1) b.units.high ≡ false = subst (λ (z : ℤ). int_le (pos 1) z ≡ false) f none in
    ap (λ (z : ℤ). int_lt z (pos 0)) e ∙ below_zero b.units.low
    ∙ sym (there ∙ ap (λ t. t || int_le (pos 1) (neg_ℤ b.units.low)) missing)

-- where it has one, there is a quotient
pub quotient_above : (a b : Ranged) (high : ℤ) → high ≡ b.units.high → int_le (pos 1) high ≡ true → true ≡ is_some (quotient_range a b)
quotient_above a b high f some =
    let up = pos (shift a b) in
    let there = mapped_there (λ i. ranged i (quotient_scale a.scale b.scale)) (quotients up a.units b.units)
    ∙ either_there (int_le (pos 1) b.units.high) (int_le (pos 1) (neg_ℤ b.units.low)) _ _ in
    let has : int_le (pos 1) b.units.high ≡ true = subst (λ (z : ℤ). int_le (pos 1) z ≡ true) f some in
    sym (there ∙ ap (λ t. t || int_le (pos 1) (neg_ℤ b.units.low)) has)
