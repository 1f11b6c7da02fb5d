-- What the calls of intervals give, and when they may be made.
use Rattle.std.proofs.Common.{◌≡◌, ℕ, suc, ◌+◌, ◌*◌, ◌/◌, ◌^◌, ◌⊎◌, inl, inr, ℤ, pos, negsuc, ◌≤ℤ◌, Option, Some, None, refl, sym, ap, subst, ◌∙◌, arith}
use Rattle.std.specs.Prelude.{◌≢◌, ◌↔◌, IfSome}
use Rattle.std.proofs.lemmas.Int.{ints, clamps}
use Rattle.dec_num.specs.declared.types.Mode.TheVariants.{Trunc}
use Rattle.dec_num.specs.Exact.{ratio_of, near}
use Rattle.interval_domain.specs.declared.bounds.Interval.{Interval}
use Rattle.interval_domain.specs.Bounds.{Holds, IsSmall, IsLeast}
use Rattle.interval_domain.specs.Results.{IsSum, IsProduct, IsQuotient, AreSmall, IsLeastCapped, capped}
use Rattle.interval_domain.specs.Corners as corner
use Rattle.std.proofs.Math.Nat.{zero-div}
use Rattle.interval_domain.proofs.IntervalEnds.{low_held, high_held, sums_are_least, products_are_least}
use Rattle.sum_ranges.specs.declared.ranged.Ranged.{Ranged}
use Rattle.sum_ranges.specs.Ranged.{ranged}
use Rattle.sum_ranges.specs.SumRanges.{raised, joint, added, shift, quotients, plus_range, product_range}
use Rattle.sum_ranges.specs.Working.{CanAddRanges, CanMultiplyRanges, CanDivideRanges}
use Rattle.sum_ranges.proofs.Operations.{LeastIfAny, quotients_least}

-- ---- one least interval

same_ends : (x y : ℤ) → x ≤ℤ y → y ≤ℤ x → x ≡ y
same_ends x y h k = omega (arith, ints, h, k)

interval_is : (i : Interval) (low high : ℤ) → i.low ≡ low → i.high ≡ high → i ≡ corner.interval low high
interval_is i low high e f = rw (← e, ← f) refl

pub one_least : (R : ℤ → Type 0) (i j : Interval) → IsLeast R i → IsLeast R j → i ≡ j
one_least R i j h k =
    interval_is i j.low j.high
    (same_ends i.low j.low (h.holds j.low k.low_is_one).0 (k.holds i.low h.low_is_one).0)
    (same_ends i.high j.high (k.holds i.high h.high_is_one).1 (h.holds j.high k.high_is_one).1)

-- ---- what the calls give

pub sum_gives : (a b i : Interval) → a.low ≤ℤ a.high → b.low ≤ℤ b.high → IsLeast (IsSum a b) i → i ≡ added a b
sum_gives a b i h k l = one_least (IsSum a b) i (added a b) l (sums_are_least a b h k)

pub plus_gives : (a b r : Ranged) (p q i : Interval) (scale : ℕ) → CanAddRanges a b → scale ≡ joint a b → p ≡ raised a scale → q ≡ raised b scale → IsLeast (IsSum p q) i → r ≡ ranged i scale → r ≡ plus_range a b
plus_gives a b r p q i scale can e f g l m =
    let f2 : p ≡ raised a (joint a b) = f ∙ ap (raised a) e in
    let g2 : q ≡ raised b (joint a b) = g ∙ ap (raised b) e in
    let least = subst (λ x. IsLeast (IsSum x (raised b (joint a b))) i) f2 (subst (λ x. IsLeast (IsSum p x) i) g2 l) in
    let is = sum_gives (raised a (joint a b)) (raised b (joint a b)) i can.left.ordered can.right.ordered least in
    m ∙ ap (λ s. ranged i s) e ∙ ap (λ j. ranged j (joint a b)) is

pub product_gives : (a b r : Ranged) (i : Interval) (scale : ℕ) → CanMultiplyRanges a b → IsLeast (IsProduct a.units b.units) i → scale ≡ a.scale + b.scale → r ≡ ranged i scale → r ≡ product_range a b
product_gives a b r i scale can l e m =
    m ∙ ap (λ s. ranged i s) e ∙ ap (λ j. ranged j (a.scale + b.scale)) (one_least (IsProduct a.units b.units) i _ l (products_are_least a.units b.units can.left.ordered can.right.ordered))

uncapped : (z : ℤ) → IsSmall z → capped z ≡ z
uncapped z h = omega (arith, ints, clamps, h)

exact_least : (R : ℤ → Type 0) (i : Interval) → AreSmall R → IsLeastCapped R i → IsLeast R i
exact_least R i small (exact, least, low, high) =
    let same = interval_is i exact.low exact.high (low ∙ uncapped exact.low (small exact.low least.low_is_one)) (high ∙ uncapped exact.high (small exact.high least.high_is_one)) in
    subst (IsLeast R) (sym same) least

-- two that are the least where there are any
pub one_least_if_any : (R : ℤ → Type 0) (o p : Option Interval) → LeastIfAny R o → LeastIfAny R p → o ≡ p
one_least_if_any R None None h k = refl
one_least_if_any R None (Some j) h k = absurd (h j.low k.low_is_one)
one_least_if_any R (Some i) None h k = absurd (k i.low h.low_is_one)
one_least_if_any R (Some i) (Some j) h k = ap Some (one_least R i j h k)

zero_alone : (n d : Interval) (up : ℤ) → d.low ≡ pos 0 → d.high ≡ pos 0 → (z : ℤ) → IsQuotient n d up Trunc z → ⊥
zero_alone n d up low high z (x, y, h, k, some, e) = some (omega (arith, ints, low, high, k.0, k.1))

found_if_any : (n d : Interval) (up : ℤ) (o : Option Interval) → AreSmall (IsQuotient n d up Trunc) → (o ≡ None) ↔ ((d.low ≡ pos 0) × (d.high ≡ pos 0)) → IfSome o (λ i. IsLeastCapped (IsQuotient n d up Trunc) i) → LeastIfAny (IsQuotient n d up Trunc) o
found_if_any n d up None small none least = let zero_ = none.0 refl in zero_alone n d up zero_.0 zero_.1
found_if_any n d up (Some i) small none least = exact_least (IsQuotient n d up Trunc) i small least

pub found_gives : (a b : Ranged) (o : Option Interval) (up : ℤ) → CanDivideRanges a b → up ≡ pos (shift a b) → (o ≡ None) ↔ ((b.units.low ≡ pos 0) × (b.units.high ≡ pos 0)) → IfSome o (λ i. IsLeastCapped (IsQuotient a.units b.units up Trunc) i) → o ≡ quotients (pos (shift a b)) a.units b.units
found_gives a b o up can e none least =
    let least2 = subst (λ u. IfSome o (λ i. IsLeastCapped (IsQuotient a.units b.units u Trunc) i)) e least in
    one_least_if_any (IsQuotient a.units b.units (pos (shift a b)) Trunc) o (quotients (pos (shift a b)) a.units b.units)
    (found_if_any a.units b.units (pos (shift a b)) o can.quotients none least2)
    (quotients_least (pos (shift a b)) a.units b.units can.left.ordered can.right.ordered)

pub none_gives : (a b : Ranged) → CanDivideRanges a b → b.units.low ≡ pos 0 → b.units.high ≡ pos 0 → None ≡ quotients (pos (shift a b)) a.units b.units
none_gives a b can low high =
    one_least_if_any (IsQuotient a.units b.units (pos (shift a b)) Trunc) None (quotients (pos (shift a b)) a.units b.units)
    (zero_alone a.units b.units (pos (shift a b)) low high)
    (quotients_least (pos (shift a b)) a.units b.units can.left.ordered can.right.ordered)

-- ---- where the numerator is 0

none_divided : (m n : ℕ) → m ≡ 0 → m / n ≡ 0
none_divided m n e = rw e (zero-div n)

near_zero : (y : ℤ) (k : ℕ) → near Trunc (ratio_of (pos 0) y) (pos k) ≡ pos 0
near_zero (pos n) k = ap pos (none_divided (0 * 10 ^ k) n (omega arith))
near_zero (negsuc n) k = ap pos (none_divided (0 * 10 ^ k) (suc n) (omega arith))

zero_between : (low high x : ℤ) → low ≡ pos 0 → high ≡ pos 0 → low ≤ℤ x → x ≤ℤ high → x ≡ pos 0
zero_between low high x e f h k = omega (arith, ints, e, f, h, k)

near_zero_of : (x y : ℤ) (k : ℕ) → x ≡ pos 0 → near Trunc (ratio_of x y) (pos k) ≡ pos 0
near_zero_of x y k e = subst (λ t. near Trunc (ratio_of t y) (pos k) ≡ pos 0) (sym e) (near_zero y k)

pub zero_gives : (a b : Ranged) → CanDivideRanges a b → a.units.low ≡ pos 0 → a.units.high ≡ pos 0 → (b.units.low ≢ pos 0) ⊎ (b.units.high ≢ pos 0) → Some a.units ≡ quotients (pos (shift a b)) a.units b.units
zero_gives a b can low high some =
    one_least_if_any (IsQuotient a.units b.units (pos (shift a b)) Trunc) (Some a.units) (quotients (pos (shift a b)) a.units b.units)
    least (quotients_least (pos (shift a b)) a.units b.units can.left.ordered can.right.ordered)
  where
    R : ℤ → Type 0
    R = IsQuotient a.units b.units (pos (shift a b)) Trunc

    held : (z : ℤ) → R z → Holds a.units z
    held z (x, y, h, k, apart, e) =
        let none : z ≡ pos 0 = e ∙ near_zero_of x y (shift a b) (zero_between a.units.low a.units.high x low high h.0 h.1) in
        (omega (arith, ints, none, low), omega (arith, ints, none, high))

    one : (z : ℤ) → z ≡ pos 0 → R z
    one z none = elim some as (λ _. R z) [
      | inl first ↦ (a.units.low, b.units.low, low_held a.units can.left.ordered, low_held b.units can.right.ordered, first, none ∙ sym (near_zero_of a.units.low b.units.low (shift a b) low))
      | inr last ↦ (a.units.low, b.units.high, low_held a.units can.left.ordered, high_held b.units can.right.ordered, last, none ∙ sym (near_zero_of a.units.low b.units.high (shift a b) low))
    ]

    least : IsLeast R a.units
    least = record { holds = held; low_is_one = one a.units.low low; high_is_one = one a.units.high high }
