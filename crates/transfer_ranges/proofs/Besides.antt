-- What orders leave of a range.
use Rattle.std.proofs.Common.{◌≡◌, ℕ, zero, suc, ◌*◌, ◌-◌, ◌^◌, max, ◌⊎◌, inl, inr, ◌&&◌, ◌||◌, ℤ, pos, negsuc, neg_ℤ, ◌+ℤ◌, ◌-ℤ◌, ◌*ℤ◌, ◌≤ℤ◌, Bool, true, false, Option, Some, None, refl, sym, ap, subst, ◌∙◌, arith}
use Rattle.std.specs.Prelude.{int_le, if◌then◌else◌, ◌↔◌}
use Rattle.std.proofs.lemmas.Int.{ints, clamps}
use Rattle.std.proofs.Math.IntN.{pos-*ℤ-pos, negsuc-*ℤ-pos}
use Rattle.interval_domain.specs.declared.bounds.Interval.{Interval}
use Rattle.interval_domain.specs.Bounds.{Holds, IsInterval, IsLeast, IsSmall}
use Rattle.interval_domain.specs.Corners.{interval, either_of}
use Rattle.interval_domain.proofs.IntervalEnds.{times_grows, min_is_one, max_is_one, parts_of_product}
use Rattle.cob_runs.specs.Deciding.{Order, below, equal, above, order_of, number_order}
use Rattle.sum_ranges.specs.declared.ranged.Ranged.{Ranged}
use Rattle.sum_ranges.specs.Ranged.{decimal}
use Rattle.sum_ranges.specs.SumRanges.{raised, joint}
use Rattle.transfer_ranges.specs.declared.beside.Orders.{Orders}
use Rattle.transfer_ranges.specs.Kept.{IsLeastIfAny}
use Rattle.transfer_ranges.proofs.Least.{le_test, test_le}
use Rattle.transfer_ranges.specs.Beside.{IsBeside, CanRelate, is_below, is_equal, is_above, allows, if_any, common, under, over}

-- ---- the sign of a difference

pub negative_of : (d : ℤ) → is_below (order_of d) ≡ true → (d +ℤ pos 1) ≤ℤ pos 0
negative_of (pos zero) e = absurd cc
negative_of (pos (suc n)) e = absurd cc
negative_of (negsuc n) e = omega (arith, ints)

pub of_negative : (d : ℤ) → (d +ℤ pos 1) ≤ℤ pos 0 → is_below (order_of d) ≡ true
of_negative (pos n) h = absurd (omega (arith, ints))
of_negative (negsuc n) h = refl

pub none_of : (d : ℤ) → is_equal (order_of d) ≡ true → d ≡ pos 0
none_of (pos zero) e = refl
none_of (pos (suc n)) e = absurd cc
none_of (negsuc n) e = absurd cc

pub of_none : (d : ℤ) → d ≡ pos 0 → is_equal (order_of d) ≡ true
of_none d e = rw e refl

pub positive_of : (d : ℤ) → is_above (order_of d) ≡ true → pos 1 ≤ℤ d
positive_of (pos zero) e = absurd cc
positive_of (pos (suc n)) e = omega (arith, ints)
positive_of (negsuc n) e = absurd cc

pub of_positive : (d : ℤ) → pos 1 ≤ℤ d → is_above (order_of d) ≡ true
of_positive (pos zero) h = absurd (omega (arith, ints))
of_positive (pos (suc n)) h = refl
of_positive (negsuc n) h = absurd (omega (arith, ints))

-- ---- all numbers between two

-- an interval that holds exactly the numbers of which R is true
pub if_any_least : (R : ℤ → Type 0) (i : Interval) → ((z : ℤ) → Holds i z ↔ R z) → IsLeastIfAny R (if_any i)
if_any_least R i is = go (int_le i.low i.high) refl
  where
    clash : int_le i.low i.high ≡ false → int_le i.low i.high ≡ true → ⊥
    clash e f = absurd cc

    go : (b : Bool) → int_le i.low i.high ≡ b → IsLeastIfAny R (if b then Some (interval i.low i.high) else None)
    go true e = let h = test_le i.low i.high e in record {
      holds = λ z r. (is z).1 r;
      low_is_one = (is i.low).0 (omega (arith, ints), h);
      high_is_one = (is i.high).0 (h, omega (arith, ints));
    }
    go false e = λ z r. let k = (is z).1 r in clash e (le_test i.low i.high (omega (arith, ints, k.0, k.1)))

pub least_same : (R S : ℤ → Type 0) (o : Option Interval) → ((z : ℤ) → R z → S z) → ((z : ℤ) → S z → R z) → IsLeastIfAny R o → IsLeastIfAny S o
least_same R S None to from h = λ z s. h z (from z s)
least_same R S (Some i) to from h = record { holds = λ z s. h.holds z (from z s); low_is_one = to i.low h.low_is_one; high_is_one = to i.high h.high_is_one }

pub one_least : (R : ℤ → Type 0) (o p : Option Interval) → IsLeastIfAny R o → IsLeastIfAny R p → o ≡ p
one_least R None None h k = refl
one_least R None (Some j) h k = absurd (h j.low k.low_is_one)
one_least R (Some i) None h k = absurd (k i.low h.low_is_one)
one_least R (Some i) (Some j) h k =
    ap Some (interval_is i j.low j.high
    (omega (arith, ints, (h.holds j.low k.low_is_one).0, (k.holds i.low h.low_is_one).0))
    (omega (arith, ints, (h.holds j.high k.high_is_one).1, (k.holds i.high h.high_is_one).1)))
  where
    interval_is : (i : Interval) (low high : ℤ) → i.low ≡ low → i.high ≡ high → i ≡ interval low high
    interval_is i low high e f = rw (← e, ← f) refl

-- the numbers of either
pub either_least : (R S : ℤ → Type 0) (o p : Option Interval) → IsLeastIfAny R o → IsLeastIfAny S p → IsLeastIfAny (λ z. R z ⊎ S z) (either_of o p)
either_least R S None None h k = λ z r. elim r [ inl a ↦ h z a | inr b ↦ k z b ]
either_least R S None (Some j) h k = record {
  holds = λ z r. elim r [ inl a ↦ absurd (h z a) | inr b ↦ k.holds z b ];
  low_is_one = inr k.low_is_one;
  high_is_one = inr k.high_is_one;
}
either_least R S (Some i) None h k = record {
  holds = λ z r. elim r [ inl a ↦ h.holds z a | inr b ↦ absurd (k z b) ];
  low_is_one = inl h.low_is_one;
  high_is_one = inl h.high_is_one;
}
either_least R S (Some i) (Some j) h k = record {
  holds = λ z r. elim r [
    | inl a ↦ let m = h.holds z a in (omega (arith, ints, clamps, m.0), omega (arith, ints, clamps, m.1))
    | inr b ↦ let m = k.holds z b in (omega (arith, ints, clamps, m.0), omega (arith, ints, clamps, m.1))
  ];
  low_is_one = min_is_one (λ z. R z ⊎ S z) i.low j.low (inl h.low_is_one) (inr k.low_is_one);
  high_is_one = max_is_one (λ z. R z ⊎ S z) i.high j.high (inl h.high_is_one) (inr k.high_is_one);
}

-- ---- the parts

other_small : (a b : Ranged) (i : Interval) (scale : ℕ) → CanRelate a b → scale ≡ joint a b → i ≡ raised b scale → IsInterval i
other_small a b i scale can e f = subst IsInterval (sym (f ∙ ap (raised b) e)) can.right

in_common : (a b : Interval) (z : ℤ) → Holds (common a b) z ↔ (Holds a z × Holds b z)
in_common a b z = (
  λ h. ((omega (arith, ints, clamps, h.0), omega (arith, ints, clamps, h.1)), (omega (arith, ints, clamps, h.0), omega (arith, ints, clamps, h.1))),
  λ h. (omega (arith, ints, clamps, h.0.0, h.1.0), omega (arith, ints, clamps, h.0.1, h.1.1)),
)

negated_times : (x n : ℕ) → neg_ℤ (pos x) *ℤ pos n ≡ neg_ℤ (pos (x * n))
negated_times zero n = let e : 0 * n ≡ 0 = omega arith in pos-*ℤ-pos 0 n ∙ rw e refl
negated_times (suc x) n = negsuc-*ℤ-pos x n

swapped : (k : ℤ) (m n : ℕ) → (k *ℤ pos m) *ℤ pos n ≡ (k *ℤ pos n) *ℤ pos m
swapped (pos a) m n =
    ap (λ t. t *ℤ pos n) (pos-*ℤ-pos a m) ∙ pos-*ℤ-pos (a * m) n ∙ ap pos (omega arith) ∙ sym (pos-*ℤ-pos (a * n) m) ∙ sym (ap (λ t. t *ℤ pos m) (pos-*ℤ-pos a n))
swapped (negsuc a) m n =
    ap (λ t. t *ℤ pos n) (negsuc-*ℤ-pos a m) ∙ negated_times (suc a * m) n ∙ ap (λ t. neg_ℤ (pos t)) (omega arith) ∙ sym (negated_times (suc a * n) m) ∙ sym (ap (λ t. t *ℤ pos m) (negsuc-*ℤ-pos a n))

module _ (a b : Ranged) (can : CanRelate a b) where
  -- a number of a at the greater scale is small
  left_small : (z : ℤ) → Holds a.units z → (neg_ℤ (pos (10 ^ 37)) ≤ℤ (z *ℤ pos (10 ^ (joint a b - a.scale)))) × ((z *ℤ pos (10 ^ (joint a b - a.scale))) ≤ℤ pos (10 ^ 37))
  left_small z h =
      let p = 10 ^ (joint a b - a.scale) in
      let first = times_grows a.units.low z (10 ^ (joint a b - a.scale)) h.0 in
      let last = times_grows z a.units.high (10 ^ (joint a b - a.scale)) h.1 in
      (omega (arith, ints, first, can.left.low), omega (arith, ints, last, can.left.high))

  pub below_least : (s : Interval) → ((k : ℤ) → Holds s k ↔ Holds (under (raised b (joint a b))) (k *ℤ pos (10 ^ (joint a b - a.scale)))) → IsLeastIfAny (IsBeside is_below a b) (if_any (common a.units s))
  below_least s is = if_any_least (IsBeside is_below a b) (common a.units s) (λ z. (to z, from z))
    where
      to : (z : ℤ) → Holds (common a.units s) z → IsBeside is_below a b z
      to z h =
          let both = (in_common a.units s z).0 h in
          let short = (is z).0 both.1 in (
            both.0,
            (
              b.units.high,
              (can.right_units.ordered, omega (arith, ints)),
              of_negative (z *ℤ pos (10 ^ (joint a b - a.scale)) -ℤ b.units.high *ℤ pos (10 ^ (joint a b - b.scale))) (omega (arith, ints, short.1)),
            ),
          )

      from : (z : ℤ) → IsBeside is_below a b z → Holds (common a.units s) z
      from z (h, (w, k, e)) =
          let less = negative_of (z *ℤ pos (10 ^ (joint a b - a.scale)) -ℤ w *ℤ pos (10 ^ (joint a b - b.scale))) e in
          let most = times_grows w b.units.high (10 ^ (joint a b - b.scale)) k.1 in
          let small = left_small z h in
          (in_common a.units s z).1 (h, (is z).1 (omega (arith, ints, small.0), omega (arith, ints, less, most)))

  pub above_least : (s : Interval) → ((k : ℤ) → Holds s k ↔ Holds (over (raised b (joint a b))) (k *ℤ pos (10 ^ (joint a b - a.scale)))) → IsLeastIfAny (IsBeside is_above a b) (if_any (common a.units s))
  above_least s is = if_any_least (IsBeside is_above a b) (common a.units s) (λ z. (to z, from z))
    where
      to : (z : ℤ) → Holds (common a.units s) z → IsBeside is_above a b z
      to z h =
          let both = (in_common a.units s z).0 h in
          let long = (is z).0 both.1 in (
            both.0,
            (
              b.units.low,
              (omega (arith, ints), can.right_units.ordered),
              of_positive (z *ℤ pos (10 ^ (joint a b - a.scale)) -ℤ b.units.low *ℤ pos (10 ^ (joint a b - b.scale))) (omega (arith, ints, long.0)),
            ),
          )

      from : (z : ℤ) → IsBeside is_above a b z → Holds (common a.units s) z
      from z (h, (w, k, e)) =
          let more = positive_of (z *ℤ pos (10 ^ (joint a b - a.scale)) -ℤ w *ℤ pos (10 ^ (joint a b - b.scale))) e in
          let least = times_grows b.units.low w (10 ^ (joint a b - b.scale)) k.0 in
          let small = left_small z h in
          (in_common a.units s z).1 (h, (is z).1 (omega (arith, ints, more, least), omega (arith, ints, small.1)))

  -- one of the two scales is the greater one
  is_multiple : (z w : ℤ) → (z *ℤ pos (10 ^ (joint a b - a.scale))) ≡ (w *ℤ pos (10 ^ (joint a b - b.scale))) → (k : ℤ) × (z ≡ k *ℤ pos (10 ^ (joint a b - b.scale))) × (w ≡ k *ℤ pos (10 ^ (joint a b - a.scale)))
  is_multiple z w e = elim (greater a.scale b.scale) as (λ _. (k : ℤ) × (z ≡ k *ℤ pos (10 ^ (joint a b - b.scale))) × (w ≡ k *ℤ pos (10 ^ (joint a b - a.scale)))) [
    | inl f ↦ (w, sym (once z (joint a b - a.scale) f) ∙ e, sym (once w (joint a b - a.scale) f))
    | inr f ↦ (z, sym (once z (joint a b - b.scale) f), sym (once w (joint a b - b.scale) f) ∙ sym e)
  ]
    where
      greater : (m n : ℕ) → (max m n - m ≡ 0) ⊎ (max m n - n ≡ 0)
      greater m n = grind arith

      once : (x : ℤ) (k : ℕ) → k ≡ 0 → x *ℤ pos (10 ^ k) ≡ x
      once x k f = rw f (omega (arith, ints, parts_of_product x (pos 1)))

  pub equal_least : (s t : Interval) (o : Option Interval) → ((k : ℤ) → Holds s k ↔ Holds a.units (k *ℤ pos (10 ^ (joint a b - b.scale)))) → ((k : ℤ) → Holds t k ↔ Holds b.units (k *ℤ pos (10 ^ (joint a b - a.scale))))
      → IsLeastIfAny (λ z. (k : ℤ) × Holds (common s t) k × (z ≡ k *ℤ pos (10 ^ (joint a b - b.scale)))) o → IsLeastIfAny (IsBeside is_equal a b) o
  equal_least s t o in_a in_b h = least_same _ (IsBeside is_equal a b) o to from h
    where
      to : (z : ℤ) → (k : ℤ) × Holds (common s t) k × (z ≡ k *ℤ pos (10 ^ (joint a b - b.scale))) → IsBeside is_equal a b z
      to z (k, m, e) =
          let both = (in_common s t k).0 m in
          let w = k *ℤ pos (10 ^ (joint a b - a.scale)) in (
            subst (Holds a.units) (sym e) ((in_a k).0 both.0),
            (
              w,
              (in_b k).0 both.1,
              of_none (z *ℤ pos (10 ^ (joint a b - a.scale)) -ℤ w *ℤ pos (10 ^ (joint a b - b.scale)))
                  (omega (arith, ints, ap (λ x. x *ℤ pos (10 ^ (joint a b - a.scale))) e, swapped k (10 ^ (joint a b - b.scale)) (10 ^ (joint a b - a.scale)))),
            ),
          )

      multiple : (z w : ℤ) → Holds a.units z → Holds b.units w → (k : ℤ) × (z ≡ k *ℤ pos (10 ^ (joint a b - b.scale))) × (w ≡ k *ℤ pos (10 ^ (joint a b - a.scale)))
          → (k : ℤ) × Holds (common s t) k × (z ≡ k *ℤ pos (10 ^ (joint a b - b.scale)))
      multiple z w h m (k, e, f) = (k, (in_common s t k).1 ((in_a k).1 (subst (Holds a.units) e h), (in_b k).1 (subst (Holds b.units) f m)), e)

      from : (z : ℤ) → IsBeside is_equal a b z → (k : ℤ) × Holds (common s t) k × (z ≡ k *ℤ pos (10 ^ (joint a b - b.scale)))
      from z (h, (w, m, e)) =
          let same = none_of (z *ℤ pos (10 ^ (joint a b - a.scale)) -ℤ w *ℤ pos (10 ^ (joint a b - b.scale))) e in
          multiple z w h m (is_multiple z w (omega (arith, ints, same)))

-- ---- what the calls give

pub below_gives : (a b : Ranged) (o : Option Interval) (scale : ℕ) (i j s c : Interval) → CanRelate a b → scale ≡ joint a b → i ≡ raised b scale → j ≡ under i
    → ((k : ℤ) → Holds s k ↔ Holds j (k *ℤ pos (10 ^ (scale - a.scale)))) → c ≡ common a.units s → o ≡ if_any c → IsLeastIfAny (IsBeside is_below a b) o
below_gives a b o scale i j s c can e f g is h k =
    let other : j ≡ under (raised b (joint a b)) = g ∙ ap under (f ∙ ap (raised b) e) in
    let is2 = subst (λ x. (k : ℤ) → Holds s k ↔ Holds x (k *ℤ pos (10 ^ (scale - a.scale)))) other is in
    let is3 = subst (λ n. (k : ℤ) → Holds s k ↔ Holds (under (raised b (joint a b))) (k *ℤ pos (10 ^ (n - a.scale)))) e is2 in
    subst (IsLeastIfAny (IsBeside is_below a b)) (sym (k ∙ ap if_any h)) (below_least a b can s is3)

pub above_gives : (a b : Ranged) (o : Option Interval) (scale : ℕ) (i j s c : Interval) → CanRelate a b → scale ≡ joint a b → i ≡ raised b scale → j ≡ over i
    → ((k : ℤ) → Holds s k ↔ Holds j (k *ℤ pos (10 ^ (scale - a.scale)))) → c ≡ common a.units s → o ≡ if_any c → IsLeastIfAny (IsBeside is_above a b) o
above_gives a b o scale i j s c can e f g is h k =
    let other : j ≡ over (raised b (joint a b)) = g ∙ ap over (f ∙ ap (raised b) e) in
    let is2 = subst (λ x. (k : ℤ) → Holds s k ↔ Holds x (k *ℤ pos (10 ^ (scale - a.scale)))) other is in
    let is3 = subst (λ n. (k : ℤ) → Holds s k ↔ Holds (over (raised b (joint a b))) (k *ℤ pos (10 ^ (n - a.scale)))) e is2 in
    subst (IsLeastIfAny (IsBeside is_above a b)) (sym (k ∙ ap if_any h)) (above_least a b can s is3)

pub equal_gives : (a b : Ranged) (o : Option Interval) (scale : ℕ) (s t c : Interval) → CanRelate a b → scale ≡ joint a b
    → ((k : ℤ) → Holds s k ↔ Holds a.units (k *ℤ pos (10 ^ (scale - b.scale)))) → ((k : ℤ) → Holds t k ↔ Holds b.units (k *ℤ pos (10 ^ (scale - a.scale)))) → c ≡ common s t
    → IsLeastIfAny (λ z. (k : ℤ) × Holds c k × (z ≡ k *ℤ pos (10 ^ (scale - b.scale)))) o → IsLeastIfAny (IsBeside is_equal a b) o
equal_gives a b o scale s t c can e in_a in_b h k =
    let k2 = subst (λ (x : Interval). IsLeastIfAny (λ z. (k : ℤ) × Holds x k × (z ≡ k *ℤ pos (10 ^ (scale - b.scale)))) o) h k in
    equal_least a b can s t o
    (subst (λ n. (k : ℤ) → Holds s k ↔ Holds a.units (k *ℤ pos (10 ^ (n - b.scale)))) e in_a)
    (subst (λ n. (k : ℤ) → Holds t k ↔ Holds b.units (k *ℤ pos (10 ^ (n - a.scale)))) e in_b)
    (subst (λ n. IsLeastIfAny (λ z. (k : ℤ) × Holds (common s t) k × (z ≡ k *ℤ pos (10 ^ (n - b.scale)))) o) e k2)

-- what an interval holds is as small as its ends
pub held_small : (whole : Interval) (z : ℤ) → IsInterval whole → Holds whole z → IsSmall z
held_small whole z is h = let low = is.low in let high = is.high in omega (arith, ints, low, high, h.0, h.1)

-- the multiples of the numbers of an interval
pub multiples_least : (a : Ranged) (scale : ℕ) (r : Interval) → a.units.low ≤ℤ a.units.high → r ≡ raised a scale → IsLeast (λ z. (k : ℤ) × Holds a.units k × (z ≡ k *ℤ pos (10 ^ (scale - a.scale)))) r
multiples_least a scale r h e = subst (IsLeast _) (sym e) (record {
  holds = λ z m. (
    subst (λ t. (a.units.low *ℤ pos (10 ^ (scale - a.scale))) ≤ℤ t) (sym m.2) (times_grows a.units.low m.0 (10 ^ (scale - a.scale)) m.1.0),
    subst (λ t. t ≤ℤ (a.units.high *ℤ pos (10 ^ (scale - a.scale)))) (sym m.2) (times_grows m.0 a.units.high (10 ^ (scale - a.scale)) m.1.1),
  );
  low_is_one = (a.units.low, (omega (arith, ints), h), refl);
  high_is_one = (a.units.high, (h, omega (arith, ints)), refl);
})

-- ---- some orders

chosen_least : (R : ℤ → Type 0) (wanted : Bool) (o : Option Interval) → IsLeastIfAny R o → IsLeastIfAny (λ z. (wanted ≡ true) × R z) (if wanted then o else None)
chosen_least R true o h = least_same R (λ z. (true ≡ true) × R z) o (λ z r. (refl, r)) (λ z r. r.1) h
chosen_least R false o h = λ z r. absurd (clash r.0)
  where
    clash : false ≡ true → ⊥
    clash e = absurd cc

allowed_cases : (os : Orders) (o : Order) → allows os o ≡ true → ((os.below ≡ true) × (is_below o ≡ true)) ⊎ (((os.equal ≡ true) × (is_equal o ≡ true)) ⊎ ((os.above ≡ true) × (is_above o ≡ true)))
allowed_cases os below e = inl (first os.below (os.equal) (os.above) e, refl)
  where
    first : (x y z : Bool) → ((x && true) || ((y && false) || (z && false))) ≡ true → x ≡ true
    first true y z e = refl
    first false true true e = absurd cc
    first false true false e = absurd cc
    first false false true e = absurd cc
    first false false false e = absurd cc
allowed_cases os equal e = inr (inl (second os.below os.equal os.above e, refl))
  where
    second : (x y z : Bool) → ((x && false) || ((y && true) || (z && false))) ≡ true → y ≡ true
    second x true z e = refl
    second true false true e = absurd cc
    second true false false e = absurd cc
    second false false true e = absurd cc
    second false false false e = absurd cc
allowed_cases os above e = inr (inr (third os.below os.equal os.above e, refl))
  where
    third : (x y z : Bool) → ((x && false) || ((y && false) || (z && true))) ≡ true → z ≡ true
    third x y true e = refl
    third true true false e = absurd cc
    third true false false e = absurd cc
    third false true false e = absurd cc
    third false false false e = absurd cc

below_allowed : (os : Orders) (o : Order) → os.below ≡ true → is_below o ≡ true → allows os o ≡ true
below_allowed os o e f = rw (e, f) refl

equal_allowed : (os : Orders) (o : Order) → os.equal ≡ true → is_equal o ≡ true → allows os o ≡ true
equal_allowed os o e f = go (os.below && is_below o) (os.equal && is_equal o) (os.above && is_above o) (rw (e, f) refl)
  where
    go : (x y z : Bool) → y ≡ true → (x || (y || z)) ≡ true
    go true y z e = refl
    go false true z e = refl
    go false false z e = absurd cc

above_allowed : (os : Orders) (o : Order) → os.above ≡ true → is_above o ≡ true → allows os o ≡ true
above_allowed os o e f = go (os.below && is_below o) (os.equal && is_equal o) (os.above && is_above o) (rw (e, f) refl)
  where
    go : (x y z : Bool) → z ≡ true → (x || (y || z)) ≡ true
    go true y z e = refl
    go false true z e = refl
    go false false z e = e

pub beside_gives : (os : Orders) (a b : Ranged) (o p q o2 p2 q2 r s : Option Interval) → IsLeastIfAny (IsBeside is_below a b) o → IsLeastIfAny (IsBeside is_equal a b) p → IsLeastIfAny (IsBeside is_above a b) q
    → o2 ≡ (if os.below then o else None) → p2 ≡ (if os.equal then p else None) → q2 ≡ (if os.above then q else None) → r ≡ either_of p2 q2 → s ≡ either_of o2 r → IsLeastIfAny (IsBeside (allows os) a b) s
beside_gives os a b o p q o2 p2 q2 r s ho hp hq eo ep eq er es =
    let lo = subst (IsLeastIfAny (λ z. (os.below ≡ true) × IsBeside is_below a b z)) (sym eo) (chosen_least (IsBeside is_below a b) os.below o ho) in
    let lp = subst (IsLeastIfAny (λ z. (os.equal ≡ true) × IsBeside is_equal a b z)) (sym ep) (chosen_least (IsBeside is_equal a b) os.equal p hp) in
    let lq = subst (IsLeastIfAny (λ z. (os.above ≡ true) × IsBeside is_above a b z)) (sym eq) (chosen_least (IsBeside is_above a b) os.above q hq) in
    let lr = subst (IsLeastIfAny (λ z. Equal z ⊎ Above z)) (sym er) (either_least Equal Above p2 q2 lp lq) in
    let ls = subst (IsLeastIfAny (λ z. Below z ⊎ (Equal z ⊎ Above z))) (sym es) (either_least Below (λ z. Equal z ⊎ Above z) o2 r lo lr) in
    least_same (λ z. Below z ⊎ (Equal z ⊎ Above z)) (IsBeside (allows os) a b) s to from ls
  where
    Below : ℤ → Type 0
    Below z = (os.below ≡ true) × IsBeside is_below a b z

    Equal : ℤ → Type 0
    Equal z = (os.equal ≡ true) × IsBeside is_equal a b z

    Above : ℤ → Type 0
    Above z = (os.above ≡ true) × IsBeside is_above a b z

    to : (z : ℤ) → Below z ⊎ (Equal z ⊎ Above z) → IsBeside (allows os) a b z
    to z (inl (e, h)) = (h.0, (h.1.0, h.1.1, below_allowed os _ e h.1.2))
    to z (inr (inl (e, h))) = (h.0, (h.1.0, h.1.1, equal_allowed os _ e h.1.2))
    to z (inr (inr (e, h))) = (h.0, (h.1.0, h.1.1, above_allowed os _ e h.1.2))

    from : (z : ℤ) → IsBeside (allows os) a b z → Below z ⊎ (Equal z ⊎ Above z)
    from z (h, (w, k, e)) = elim (allowed_cases os (number_order (decimal z a.scale) (decimal w b.scale)) e) as (λ _. Below z ⊎ (Equal z ⊎ Above z)) [
      | inl c ↦ inl (c.0, (h, (w, k, c.1)))
      | inr (inl c) ↦ inr (inl (c.0, (h, (w, k, c.1))))
      | inr (inr c) ↦ inr (inr (c.0, (h, (w, k, c.1))))
    ]
