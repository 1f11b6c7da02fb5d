-- Each operation's range is the least that holds its results.
use Rattle.std.proofs.Common.{◌≡◌, ℕ, ◌+◌, ◌-◌, ◌^◌, ◌==◌, Bool, true, false, if◌then◌else◌, ℤ, pos, neg_ℤ, ◌+ℤ◌, ◌*ℤ◌, ◌≤ℤ◌, Option, Some, None, refl, sym, ap, subst, ◌∙◌, arith}
use Rattle.std.specs.Prelude.{◌≢◌, int_le, option_map, unsigned_abs}
use Rattle.std.proofs.lemmas.Int.{ints, clamps}
use Rattle.std.proofs.lemmas.Bool.{ne_eqb}
use Rattle.std.proofs.Math.IntN.{neg_ℤ-neg_ℤ}
use Rattle.dec_num.specs.declared.types.Mode.TheVariants.{Trunc}
use Rattle.dec_num.specs.declared.types.Scaled.{Scaled}
use Rattle.dec_num.specs.Exact.{ratio_of, near}
use Rattle.dec_num.specs.Scaled.{units_at, joint_scale}
use Rattle.interval_domain.specs.declared.bounds.Interval.{Interval}
use Rattle.interval_domain.specs.Bounds.{Holds, IsLeast}
use Rattle.interval_domain.specs.Results.{IsProduct, IsQuotient}
use Rattle.interval_domain.specs.Corners as corner
use Rattle.interval_domain.proofs.IntervalEnds.{low_held, high_held, times_grows, products_are_least}
use Rattle.cob_program.specs.Values.{plus, product, quotient_scale, with_factor}
use Rattle.cob_program.proofs.Steps.{some_same}
use Rattle.interval_domain.proofs.Quotients.{positive_least, above_and_below, above_alone, below_alone}
use Rattle.sum_ranges.specs.declared.ranged.Ranged.{Ranged}
use Rattle.sum_ranges.specs.Ranged.{decimal, ranged, IsIn, IsOrdered}
use Rattle.sum_ranges.specs.Results.{IsResult, IsTurned, IsLeastRange, IsRangeOf}
use Rattle.sum_ranges.specs.SumRanges.{turned, raised, joint, added, plus_range, product_range, quotients, shift, quotient_range, factor_range}

-- ---- from units to decimals

abbrev pub LeastIfAny : (ℤ → Type 0) → Option Interval → Type 0
LeastIfAny Q None = (z : ℤ) → Q z → ⊥
LeastIfAny Q (Some i) = IsLeast Q i

pub least_of_units : (R : Scaled → Type 0) (Q : ℤ → Type 0) (i : Interval) (scale : ℕ) → ((x : Scaled) → R x → (x.scale ≡ scale) × Q x.units) → ((z : ℤ) → Q z → R (decimal z scale)) → IsLeast Q i → IsLeastRange R (ranged i scale)
least_of_units R Q i scale to from h = record {
  scale = λ x k. (to x k).0;
  least = record {
    holds = λ z k. h.holds z (to (decimal z scale) k).1;
    low_is_one = from i.low h.low_is_one;
    high_is_one = from i.high h.high_is_one;
  };
}

range_of_units : (R : Scaled → Type 0) (Q : ℤ → Type 0) (o : Option Interval) (scale : ℕ) → ((x : Scaled) → R x → (x.scale ≡ scale) × Q x.units) → ((z : ℤ) → Q z → R (decimal z scale)) → LeastIfAny Q o → IsRangeOf R (option_map (λ i. ranged i scale) o)
range_of_units R Q None scale to from h = λ x k. h x.units (to x k).1
range_of_units R Q (Some i) scale to from h = least_of_units R Q i scale to from h

pub in_range : (z : ℤ) (r : Ranged) → Holds r.units z → IsIn (decimal z r.scale) r
in_range z r h = record { held = h; scale = refl }

-- ---- signs

own_least : (i : Interval) → i.low ≤ℤ i.high → IsLeast (Holds i) i
own_least i h = record { holds = λ z k. k; low_is_one = low_held i h; high_is_one = high_held i h }

opposite_held : (i : Interval) (z : ℤ) → Holds i z → Holds (corner.negated i) (neg_ℤ z)
opposite_held i z h = (omega (arith, ints, h.1), omega (arith, ints, h.0))

opposite_back : (i : Interval) (z : ℤ) → Holds (corner.negated i) z → Holds i (neg_ℤ z)
opposite_back i z h = (omega (arith, ints, h.1), omega (arith, ints, h.0))

pub turned_least : (minus : Bool) (a : Ranged) → IsOrdered a → IsLeastRange (IsTurned minus a) (turned minus a)
turned_least false a ordered =
    least_of_units (IsTurned false a) (Holds a.units) a.units a.scale
    (λ x k. (ap (λ t. t.scale) k.2 ∙ k.1.scale, subst (λ t. Holds a.units t.units) (sym k.2) k.1.held))
    (λ z k. (decimal z a.scale, in_range z a k, refl))
    (own_least a.units ordered)
turned_least true a ordered =
    least_of_units (IsTurned true a) (Holds (corner.negated a.units)) (corner.negated a.units) a.scale
    (λ x k. (ap (λ t. t.scale) k.2 ∙ k.1.scale, subst (λ t. Holds (corner.negated a.units) t.units) (sym k.2) (opposite_held a.units k.0.units k.1.held)))
    (λ z k. (decimal (neg_ℤ z) a.scale, in_range (neg_ℤ z) a (opposite_back a.units z k), ap (λ u. decimal u a.scale) (sym (neg_ℤ-neg_ℤ z))))
    (own_least (corner.negated a.units) (omega (arith, ints, ordered)))

-- ---- sums

abbrev IsSumAt : Interval → Interval → ℕ → ℕ → ℤ → Type 0
IsSumAt a b m n z = (x : ℤ) × (y : ℤ) × Holds a x × Holds b y × (z ≡ x *ℤ pos m +ℤ y *ℤ pos n)

sum_between : (p q r s x y z : ℤ) → p ≤ℤ x → x ≤ℤ q → r ≤ℤ y → y ≤ℤ s → z ≡ x +ℤ y → Holds (corner.interval (p +ℤ r) (q +ℤ s)) z
sum_between p q r s x y z h k l m e = (omega (arith, ints), omega (arith, ints))

sum_at_held : (a b : Interval) (m n : ℕ) (z : ℤ) → IsSumAt a b m n z → Holds (added (corner.interval (a.low *ℤ pos m) (a.high *ℤ pos m)) (corner.interval (b.low *ℤ pos n) (b.high *ℤ pos n))) z
sum_at_held a b m n z (x, y, h, k, e) =
    sum_between (a.low *ℤ pos m) (a.high *ℤ pos m) (b.low *ℤ pos n) (b.high *ℤ pos n) (x *ℤ pos m) (y *ℤ pos n) z
    (times_grows a.low x m h.0) (times_grows x a.high m h.1) (times_grows b.low y n k.0) (times_grows y b.high n k.1) e

sums_at_least : (a b : Interval) (m n : ℕ) → a.low ≤ℤ a.high → b.low ≤ℤ b.high → IsLeast (IsSumAt a b m n) (added (corner.interval (a.low *ℤ pos m) (a.high *ℤ pos m)) (corner.interval (b.low *ℤ pos n) (b.high *ℤ pos n)))
sums_at_least a b m n h k = record {
  holds = sum_at_held a b m n;
  low_is_one = (a.low, b.low, low_held a h, low_held b k, refl);
  high_is_one = (a.high, b.high, high_held a h, high_held b k, refl);
}

abbrev pub some_sum : Scaled → Scaled → Option Scaled
some_sum v w = Some (plus v w)

pub sums_least : (a b : Ranged) → IsOrdered a → IsOrdered b → IsLeastRange (IsResult (λ v w. Some (plus v w)) a b) (plus_range a b)
sums_least a b ordered_a ordered_b =
    least_of_units (IsResult some_sum a b) (IsSumAt a.units b.units (10 ^ (joint a b - a.scale)) (10 ^ (joint a b - b.scale)))
    (added (raised a (joint a b)) (raised b (joint a b))) (joint a b)
    sum_is
    sum_back
    (sums_at_least a.units b.units (10 ^ (joint a b - a.scale)) (10 ^ (joint a b - b.scale)) ordered_a ordered_b)
  where
    sum_is : (x : Scaled) → IsResult some_sum a b x → (x.scale ≡ joint a b) × IsSumAt a.units b.units (10 ^ (joint a b - a.scale)) (10 ^ (joint a b - b.scale)) x.units
    sum_is x (v, w, h, k, e) =
        let is = some_same (plus v w) x e in
        let scales : joint_scale v w ≡ joint a b = rw (h.scale, k.scale) refl in
        let units : units_at v (joint_scale v w) +ℤ units_at w (joint_scale v w) ≡ v.units *ℤ pos (10 ^ (joint a b - a.scale)) +ℤ w.units *ℤ pos (10 ^ (joint a b - b.scale)) = rw (h.scale, k.scale) refl in (
          sym (ap (λ t. t.scale) is) ∙ scales,
          (v.units, w.units, h.held, k.held, sym (ap (λ t. t.units) is) ∙ units),
        )

    sum_back : (z : ℤ) → IsSumAt a.units b.units (10 ^ (joint a b - a.scale)) (10 ^ (joint a b - b.scale)) z → IsResult some_sum a b (decimal z (joint a b))
    sum_back z (x, y, h, k, e) = (decimal x a.scale, decimal y b.scale, in_range x a h, in_range y b k, ap (λ u. Some (decimal u (joint a b))) (sym e))

-- ---- products

pub products_least : (a b : Ranged) → IsOrdered a → IsOrdered b → IsLeastRange (IsResult (with_factor false) a b) (product_range a b)
products_least a b ordered_a ordered_b =
    least_of_units (IsResult (with_factor false) a b) (IsProduct a.units b.units) (corner.corners (λ x y. x *ℤ y) a.units b.units) (a.scale + b.scale)
    product_is
    product_back
    (products_are_least a.units b.units ordered_a ordered_b)
  where
    product_is : (x : Scaled) → IsResult (with_factor false) a b x → (x.scale ≡ a.scale + b.scale) × IsProduct a.units b.units x.units
    product_is x (v, w, h, k, e) =
        let is = some_same (product v w) x e in
        let scales : v.scale + w.scale ≡ a.scale + b.scale = rw (h.scale, k.scale) refl in
        (sym (ap (λ t. t.scale) is) ∙ scales, (v.units, w.units, h.held, k.held, sym (ap (λ t. t.units) is)))

    product_back : (z : ℤ) → IsProduct a.units b.units z → IsResult (with_factor false) a b (decimal z (a.scale + b.scale))
    product_back z (x, y, h, k, e) = (decimal x a.scale, decimal y b.scale, in_range x a h, in_range y b k, ap (λ u. Some (decimal u (a.scale + b.scale))) (sym e))

-- ---- quotients

positive_divisors : (d : Interval) → d.low ≤ℤ d.high → pos 1 ≤ℤ d.high → (corner.above_zero d).low ≤ℤ (corner.above_zero d).high
positive_divisors d h k = omega (arith, ints, clamps)

above_positive : (d : Interval) → pos 1 ≤ℤ (corner.above_zero d).low
above_positive d = omega (arith, ints, clamps)

no_divisor : (n d : Interval) (up : ℤ) → d.high ≤ℤ pos 0 → neg_ℤ d.low ≤ℤ pos 0 → (z : ℤ) → IsQuotient n d up Trunc z → ⊥
no_divisor n d up high low z (x, y, h, k, some, e) = some (omega (arith, ints, high, low, k.0, k.1))

le_of : (x y : ℤ) → int_le x y ≡ true → x ≤ℤ y
le_of x y e = grind (arith, ints)

gt_of : (y : ℤ) → int_le (pos 1) y ≡ false → y ≤ℤ pos 0
gt_of y e = grind (arith, ints)

pub quotients_least : (up : ℤ) (n d : Interval) → n.low ≤ℤ n.high → d.low ≤ℤ d.high → LeastIfAny (IsQuotient n d up Trunc) (quotients up n d)
quotients_least up n d ordered_n ordered_d = go (int_le (pos 1) d.high) (int_le (pos 1) (neg_ℤ d.low)) refl refl
  where
    over : Interval
    over = corner.corners (corner.quotient up Trunc) n (corner.above_zero d)

    under : Interval
    under = corner.corners (corner.quotient up Trunc) (corner.negated n) (corner.above_zero (corner.negated d))

    go : (above below : Bool) → int_le (pos 1) d.high ≡ above → int_le (pos 1) (neg_ℤ d.low) ≡ below → LeastIfAny (IsQuotient n d up Trunc) (corner.either_of (if above then Some over else None) (if below then Some under else None))
    go true true e f =
        let above = positive_least n (corner.above_zero d) up Trunc ordered_n (positive_divisors d ordered_d (le_of (pos 1) d.high e)) (above_positive d) in
        let below = positive_least (corner.negated n) (corner.above_zero (corner.negated d)) up Trunc (omega (arith, ints, ordered_n)) (positive_divisors (corner.negated d) (omega (arith, ints, ordered_d)) (le_of (pos 1) (neg_ℤ d.low) f)) (above_positive (corner.negated d)) in
        above_and_below n d up Trunc over under above below
    go true false e f =
        let above = positive_least n (corner.above_zero d) up Trunc ordered_n (positive_divisors d ordered_d (le_of (pos 1) d.high e)) (above_positive d) in
        above_alone n d up Trunc over (gt_of (neg_ℤ d.low) f) above
    go false true e f =
        let below = positive_least (corner.negated n) (corner.above_zero (corner.negated d)) up Trunc (omega (arith, ints, ordered_n)) (positive_divisors (corner.negated d) (omega (arith, ints, ordered_d)) (le_of (pos 1) (neg_ℤ d.low) f)) (above_positive (corner.negated d)) in
        below_alone n d up Trunc under (gt_of d.high e) below
    go false false e f = no_divisor n d up (gt_of d.high e) (gt_of (neg_ℤ d.low) f)

pub not_zero : (z : ℤ) → z ≢ pos 0 → (unsigned_abs z == 0) ≡ false
not_zero z h = ne_eqb (unsigned_abs z) 0 (λ e. h (omega (arith, ints, e)))

zero_apart : (z : ℤ) → z ≡ pos 0 → (unsigned_abs z == 0) ≡ false → ⊥
zero_apart z none apart = let e : (unsigned_abs z == 0) ≡ true = rw none refl in absurd cc

abbrev pub quotient_of : Scaled → Scaled → Scaled
quotient_of v w = decimal (near Trunc (ratio_of v.units w.units) (pos (quotient_scale v.scale w.scale + w.scale - v.scale))) (quotient_scale v.scale w.scale)

pub quotient_there : (v w : Scaled) → (unsigned_abs w.units == 0) ≡ false → with_factor true v w ≡ Some (quotient_of v w)
quotient_there v w e = rw e refl

quotient_parts : (a b : Ranged) (v w x : Scaled) → IsIn v a → IsIn w b → with_factor true v w ≡ Some x → (x.scale ≡ quotient_scale a.scale b.scale) × IsQuotient a.units b.units (pos (shift a b)) Trunc x.units
quotient_parts a b v w x h k e = go (unsigned_abs w.units == 0) refl e
  where
    go : (zero_ : Bool) → (unsigned_abs w.units == 0) ≡ zero_ → (if zero_ then None else Some (quotient_of v w)) ≡ Some x → (x.scale ≡ quotient_scale a.scale b.scale) × IsQuotient a.units b.units (pos (shift a b)) Trunc x.units
    go true ez e0 = absurd cc
    go false ez e0 =
        let is = some_same (quotient_of v w) x e0 in
        let scales : quotient_scale v.scale w.scale ≡ quotient_scale a.scale b.scale = rw (h.scale, k.scale) refl in
        let units : near Trunc (ratio_of v.units w.units) (pos (quotient_scale v.scale w.scale + w.scale - v.scale)) ≡ near Trunc (ratio_of v.units w.units) (pos (shift a b)) = rw (h.scale, k.scale) refl in
        (sym (ap (λ t. t.scale) is) ∙ scales, (v.units, w.units, h.held, k.held, (λ none. zero_apart w.units none ez), sym (ap (λ t. t.units) is) ∙ units))

pub quotient_ranges_least : (a b : Ranged) → IsOrdered a → IsOrdered b → IsRangeOf (IsResult (with_factor true) a b) (quotient_range a b)
quotient_ranges_least a b ordered_a ordered_b =
    range_of_units (IsResult (with_factor true) a b) (IsQuotient a.units b.units (pos (shift a b)) Trunc) (quotients (pos (shift a b)) a.units b.units) (quotient_scale a.scale b.scale)
    (λ x k. quotient_parts a b k.0 k.1 x k.2 k.3 k.4) quotient_back
    (quotients_least (pos (shift a b)) a.units b.units ordered_a ordered_b)
  where
    quotient_back : (z : ℤ) → IsQuotient a.units b.units (pos (shift a b)) Trunc z → IsResult (with_factor true) a b (decimal z (quotient_scale a.scale b.scale))
    quotient_back z (x, y, h, k, some, e) = (
      decimal x a.scale,
      decimal y b.scale,
      in_range x a h,
      in_range y b k,
      quotient_there (decimal x a.scale) (decimal y b.scale) (not_zero y some) ∙ ap (λ u. Some (decimal u (quotient_scale a.scale b.scale))) (sym e),
    )

pub factors_least : (over : Bool) (a b : Ranged) → IsOrdered a → IsOrdered b → IsRangeOf (IsResult (with_factor over) a b) (factor_range over a b)
factors_least false a b h k = products_least a b h k
factors_least true a b h k = quotient_ranges_least a b h k
