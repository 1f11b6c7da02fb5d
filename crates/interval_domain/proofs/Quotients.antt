-- Least intervals of quotients.
use Rattle.std.proofs.Common.{◌≡◌, ℕ, zero, suc, ◌*◌, ◌<◌, ◌≤◌, ◌⊎◌, inl, inr, ℤ, pos, negsuc, neg_ℤ, ◌*ℤ◌, ◌≤ℤ◌, refl, sym, ◌∙◌, ap, subst, arith}
use Rattle.std.specs.Prelude.{◌≢◌, ◌↔◌, Option, Some, None, IfSome}
use Rattle.std.specs.Int.{int_max, int_min}
use Rattle.std.proofs.lemmas.Int.{ints, clamps}
use Rattle.std.proofs.lemmas.Nat.{mul-le}
use Rattle.std.proofs.Math.Nat.{mul_comm}
use Rattle.std.proofs.Math.IntN.{neg_ℤ-neg_ℤ}
use Rattle.dec_num.specs.declared.types.Mode.{Mode}
use Rattle.dec_num.specs.Exact.{Fraction, IsSameNumber, near, ratio_of}
use Rattle.dec_num.proofs.Signed.{times_times}
use Rattle.dec_num.proofs.Near.{near_same, near_monotone}
use Rattle.interval_domain.specs.declared.bounds.Interval.{Interval}
use Rattle.interval_domain.specs.Bounds.{Holds, IsLeast}
use Rattle.interval_domain.specs.Results.{IsQuotient, IsLeastCapped, capped}
use Rattle.interval_domain.specs.Corners.{span, joined, corners, negated, above_zero, quotient, either_of}
use Rattle.interval_domain.proofs.IntervalEnds.{IsBetweenEnds, corners_hold, corners_are_ones, corners_from, in_order, in_other_order, parts_of_product, min_is_one, max_is_one}

-- ---- a greater fraction is near no smaller number
raised_same : (p : Fraction) (k : ℕ) → IsSameNumber p (record { top = p.top *ℤ pos k; bottom = k * p.bottom })
raised_same p k = sym (times_times p.top k p.bottom)

both_positive : (m n : ℕ) → 0 < m → 0 < n → 0 < m * n
both_positive m n h k = omega (arith, mul-le 1 1 m n h k)

pub near_le : (mode : Mode) (p q : Fraction) (up : ℤ) → 0 < p.bottom → 0 < q.bottom → (p.top *ℤ pos q.bottom) ≤ℤ (q.top *ℤ pos p.bottom) → near mode p up ≤ℤ near mode q up
near_le mode p q up h k e =
    let left : near mode p up ≡ near mode (record { top = p.top *ℤ pos q.bottom; bottom = q.bottom * p.bottom }) up = near_same mode p (record { top = p.top *ℤ pos q.bottom; bottom = q.bottom * p.bottom }) up h (both_positive q.bottom p.bottom k h) (raised_same p q.bottom) in
    let right : near mode q up ≡ near mode (record { top = q.top *ℤ pos p.bottom; bottom = p.bottom * q.bottom }) up = near_same mode q (record { top = q.top *ℤ pos p.bottom; bottom = p.bottom * q.bottom }) up k (both_positive p.bottom q.bottom h k) (raised_same q p.bottom) in
    let one_bottom : near mode (record { top = q.top *ℤ pos p.bottom; bottom = p.bottom * q.bottom }) up ≡ near mode (record { top = q.top *ℤ pos p.bottom; bottom = q.bottom * p.bottom }) up = ap (λ b. near mode (record { top = q.top *ℤ pos p.bottom; bottom = b }) up) (mul_comm p.bottom q.bottom) in
    let grows = near_monotone mode (p.top *ℤ pos q.bottom) (q.top *ℤ pos p.bottom) (q.bottom * p.bottom) up (both_positive q.bottom p.bottom k h) e in
    rw (left, right ∙ one_bottom) grows

-- ---- along a line of numerators, and along a line of divisors
along_numerators : (up : ℤ) (mode : Mode) (l x h y : ℤ) → pos 1 ≤ℤ y → l ≤ℤ x → x ≤ℤ h → Holds (span (quotient up mode l y) (quotient up mode h y)) (quotient up mode x y)
along_numerators up mode l x h (pos n) s t u =
    in_order (quotient up mode l (pos n)) (quotient up mode x (pos n)) (quotient up mode h (pos n)) (near_monotone mode l x n up (omega (arith, ints)) t) (near_monotone mode x h n up (omega (arith, ints)) u)
along_numerators up mode l x h (negsuc n) s t u = absurd (omega (arith, ints))

negative_falls : (a m n : ℕ) → m ≤ n → (negsuc a *ℤ pos n) ≤ℤ (negsuc a *ℤ pos m)
negative_falls a m n h = omega (arith, ints, parts_of_product (negsuc a) (pos n), parts_of_product (negsuc a) (pos m), mul-le (suc a) m (suc a) n (omega arith) h)

-- a greater divisor, a smaller quotient
falls : (up : ℤ) (mode : Mode) (a m n : ℕ) → 1 ≤ m → m ≤ n → quotient up mode (pos a) (pos n) ≤ℤ quotient up mode (pos a) (pos m)
falls up mode a m n h k =
    near_le mode (ratio_of (pos a) (pos n)) (ratio_of (pos a) (pos m)) up (omega arith) (omega arith) (omega (arith, ints, mul-le a m a n (omega arith) k))

grows : (up : ℤ) (mode : Mode) (a m n : ℕ) → 1 ≤ m → m ≤ n → quotient up mode (negsuc a) (pos m) ≤ℤ quotient up mode (negsuc a) (pos n)
grows up mode a m n h k =
    near_le mode (ratio_of (negsuc a) (pos m)) (ratio_of (negsuc a) (pos n)) up (omega arith) (omega arith) (negative_falls a m n k)

across_divisors : (up : ℤ) (mode : Mode) (x l y h : ℤ) → pos 1 ≤ℤ l → l ≤ℤ y → y ≤ℤ h → Holds (span (quotient up mode x l) (quotient up mode x h)) (quotient up mode x y)
across_divisors up mode (pos a) (pos l) (pos m) (pos h) s t u =
    in_other_order (quotient up mode (pos a) (pos l)) (quotient up mode (pos a) (pos m)) (quotient up mode (pos a) (pos h)) (falls up mode a m h (omega (arith, ints)) (omega (arith, ints))) (falls up mode a l m (omega (arith, ints)) (omega (arith, ints)))
across_divisors up mode (negsuc a) (pos l) (pos m) (pos h) s t u =
    in_order (quotient up mode (negsuc a) (pos l)) (quotient up mode (negsuc a) (pos m)) (quotient up mode (negsuc a) (pos h)) (grows up mode a l m (omega (arith, ints)) (omega (arith, ints))) (grows up mode a m h (omega (arith, ints)) (omega (arith, ints)))
across_divisors up mode x (negsuc l) y h s t u = absurd (omega (arith, ints))
across_divisors up mode x (pos l) (negsuc m) h s t u = absurd (omega (arith, ints))
across_divisors up mode x (pos l) (pos m) (negsuc h) s t u = absurd (omega (arith, ints))

quotients_between : (n d : Interval) (up : ℤ) (mode : Mode) → pos 1 ≤ℤ d.low → IsBetweenEnds (quotient up mode) n d
quotients_between n d up mode s = record {
  along_left = λ x y h k. along_numerators up mode n.low x n.high y (omega (arith, ints)) h.0 h.1;
  along_right = λ x y h k. across_divisors up mode x d.low y d.high s k.0 k.1;
}

nonzero : (y : ℤ) → pos 1 ≤ℤ y → y ≢ pos 0
nonzero y h e = absurd (omega (arith, ints))

quotient_held : (n d : Interval) (up : ℤ) (mode : Mode) → n.low ≤ℤ n.high → pos 1 ≤ℤ d.low → (z : ℤ) → IsQuotient n d up mode z → Holds (corners (quotient up mode) n d) z
quotient_held n d up mode h s z (x, y, k, l, nonzero, e) =
    subst (λ t. Holds (corners (quotient up mode) n d) t) (sym e) (corners_hold (quotient up mode) n d h (quotients_between n d up mode s) x y k l)

pub positive_least : (n d : Interval) (up : ℤ) (mode : Mode) → n.low ≤ℤ n.high → d.low ≤ℤ d.high → pos 1 ≤ℤ d.low → IsLeast (IsQuotient n d up mode) (corners (quotient up mode) n d)
positive_least n d up mode h k s =
    let ends = corners_are_ones (IsQuotient n d up mode) (quotient up mode) n d h k (λ x y l m. (x, y, l, m, nonzero y (omega (arith, ints)), refl)) in
    record { holds = quotient_held n d up mode h s; low_is_one = ends.0; high_is_one = ends.1 }

-- ---- caps
pub capped_min : (x y : ℤ) → capped (int_min x y) ≡ int_min (capped x) (capped y)
capped_min x y = omega (arith, ints, clamps)

pub capped_max : (x y : ℤ) → capped (int_max x y) ≡ int_max (capped x) (capped y)
capped_max x y = omega (arith, ints, clamps)

capped_least : (p q r s : ℤ) → capped (int_min (int_min p q) (int_min r s)) ≡ int_min (int_min (capped p) (capped q)) (int_min (capped r) (capped s))
capped_least p q r s =
    capped_min (int_min p q) (int_min r s) ∙ ap (λ t. int_min t (capped (int_min r s))) (capped_min p q) ∙ ap (λ t. int_min (int_min (capped p) (capped q)) t) (capped_min r s)

capped_greatest : (p q r s : ℤ) → capped (int_max (int_max p q) (int_max r s)) ≡ int_max (int_max (capped p) (capped q)) (int_max (capped r) (capped s))
capped_greatest p q r s =
    capped_max (int_max p q) (int_max r s) ∙ ap (λ t. int_max t (capped (int_max r s))) (capped_max p q) ∙ ap (λ t. int_max (int_max (capped p) (capped q)) t) (capped_max r s)

pub positive_least_capped : (n d : Interval) (up : ℤ) (mode : Mode) → n.low ≤ℤ n.high → d.low ≤ℤ d.high → pos 1 ≤ℤ d.low → IsLeastCapped (IsQuotient n d up mode) (corners (λ x y. capped (quotient up mode x y)) n d)
positive_least_capped n d up mode h k s = (
  corners (quotient up mode) n d,
  positive_least n d up mode h k s,
  sym (capped_least (quotient up mode n.low d.low) (quotient up mode n.low d.high) (quotient up mode n.high d.low) (quotient up mode n.high d.high)),
  sym (capped_greatest (quotient up mode n.low d.low) (quotient up mode n.low d.high) (quotient up mode n.high d.low) (quotient up mode n.high d.high)),
)

-- ---- divisors on both sides of 0
-- a quotient by a divisor above 0, or by one below it, as the quotient of the opposite numbers
split : (n d : Interval) (up : ℤ) (mode : Mode) (z : ℤ) → IsQuotient n d up mode z → ((pos 1 ≤ℤ d.high) × IsQuotient n (above_zero d) up mode z) ⊎ ((d.low ≤ℤ negsuc 0) × IsQuotient (negated n) (above_zero (negated d)) up mode z)
split n d up mode z (x, pos zero, h, k, nonzero, e) = absurd (nonzero refl)
split n d up mode z (x, pos (suc m), h, k, nonzero, e) = inl (omega (arith, ints), (x, pos (suc m), h, (omega (arith, ints, clamps), k.1), nonzero, e))
split n d up mode z (x, negsuc m, h, k, _, e) =
    inr (omega (arith, ints), (neg_ℤ x, pos (suc m), (omega (arith, ints), omega (arith, ints)), (omega (arith, ints, clamps), omega (arith, ints)), nonzero (pos (suc m)) (omega (arith, ints)), e))

from_above : (n d : Interval) (up : ℤ) (mode : Mode) (z : ℤ) → IsQuotient n (above_zero d) up mode z → IsQuotient n d up mode z
from_above n d up mode z (x, y, h, k, nonzero, e) = (x, y, h, (omega (arith, ints, clamps), k.1), nonzero, e)

from_below : (n d : Interval) (up : ℤ) (mode : Mode) (z : ℤ) → IsQuotient (negated n) (above_zero (negated d)) up mode z → IsQuotient n d up mode z
from_below n d up mode z (x, pos zero, h, k, nonzero, e) = absurd (nonzero refl)
from_below n d up mode z (x, negsuc m, h, k, _, e) = absurd (omega (arith, ints, clamps))
from_below n d up mode z (x, pos (suc m), h, k, _, e) =
    let same : near mode (record { top = x; bottom = suc m }) up ≡ near mode (record { top = neg_ℤ (neg_ℤ x); bottom = suc m }) up = ap (λ t. near mode (record { top = t; bottom = suc m }) up) (sym (neg_ℤ-neg_ℤ x)) in
    (neg_ℤ x, negsuc m, (omega (arith, ints), omega (arith, ints)), (omega (arith, ints, clamps), omega (arith, ints, clamps)), (λ f. cc), e ∙ same)

-- the least interval of results of two kinds
either_least : (R S T : ℤ → Type 0) (p q : Interval) → ((z : ℤ) → R z → S z ⊎ T z) → ((z : ℤ) → S z → R z) → ((z : ℤ) → T z → R z) → IsLeast S p → IsLeast T q → IsLeast R (joined p q)
either_least R S T p q parts from_s from_t s t = record {
  holds = λ z r. elim (parts z r) [
    | inl a ↦ let held : Holds p z = s.holds z a in (omega (arith, ints, clamps, held), omega (arith, ints, clamps, held))
    | inr b ↦ let held : Holds q z = t.holds z b in (omega (arith, ints, clamps, held), omega (arith, ints, clamps, held))
  ];
  low_is_one = min_is_one R p.low q.low (from_s p.low s.low_is_one) (from_t q.low t.low_is_one);
  high_is_one = max_is_one R p.high q.high (from_s p.high s.high_is_one) (from_t q.high t.high_is_one);
}

either_capped : (R S T : ℤ → Type 0) (i j : Interval) → ((z : ℤ) → R z → S z ⊎ T z) → ((z : ℤ) → S z → R z) → ((z : ℤ) → T z → R z) → IsLeastCapped S i → IsLeastCapped T j → IsLeastCapped R (joined i j)
either_capped R S T i j parts from_s from_t (p, s, p_low, p_high) (q, t, q_low, q_high) = (
  joined p q,
  either_least R S T p q parts from_s from_t s t,
  ap (λ k. int_min k j.low) p_low ∙ ap (λ k. int_min (capped p.low) k) q_low ∙ sym (capped_min p.low q.low),
  ap (λ k. int_max k j.high) p_high ∙ ap (λ k. int_max (capped p.high) k) q_high ∙ sym (capped_max p.high q.high),
)

same_least : (R S : ℤ → Type 0) (i : Interval) → ((z : ℤ) → R z → S z) → ((z : ℤ) → S z → R z) → IsLeast S i → IsLeast R i
same_least R S i to from h = record { holds = λ z r. h.holds z (to z r); low_is_one = from i.low h.low_is_one; high_is_one = from i.high h.high_is_one }

same_least_capped : (R S : ℤ → Type 0) (i : Interval) → ((z : ℤ) → R z → S z) → ((z : ℤ) → S z → R z) → IsLeastCapped S i → IsLeastCapped R i
same_least_capped R S i to from (p, s, low, high) = (p, same_least R S p to from s, low, high)

without_premises : (n d : Interval) (up : ℤ) (mode : Mode) (z : ℤ) → IsQuotient n d up mode z → IsQuotient n (above_zero d) up mode z ⊎ IsQuotient (negated n) (above_zero (negated d)) up mode z
without_premises n d up mode z h = elim (split n d up mode z h) [ inl a ↦ inl a.1 | inr b ↦ inr b.1 ]

pub above_and_below : (n d : Interval) (up : ℤ) (mode : Mode) (p q : Interval) → IsLeast (IsQuotient n (above_zero d) up mode) p → IsLeast (IsQuotient (negated n) (above_zero (negated d)) up mode) q → IsLeast (IsQuotient n d up mode) (joined p q)
above_and_below n d up mode p q h k =
    either_least (IsQuotient n d up mode) (IsQuotient n (above_zero d) up mode) (IsQuotient (negated n) (above_zero (negated d)) up mode) p q
    (without_premises n d up mode) (from_above n d up mode) (from_below n d up mode) h k

pub both_sides : (n d : Interval) (up : ℤ) (mode : Mode) (i j : Interval) → IsLeastCapped (IsQuotient n (above_zero d) up mode) i → IsLeastCapped (IsQuotient (negated n) (above_zero (negated d)) up mode) j → IsLeastCapped (IsQuotient n d up mode) (joined i j)
both_sides n d up mode i j h k =
    either_capped (IsQuotient n d up mode) (IsQuotient n (above_zero d) up mode) (IsQuotient (negated n) (above_zero (negated d)) up mode) i j
    (without_premises n d up mode) (from_above n d up mode) (from_below n d up mode) h k

only_above : (n d : Interval) (up : ℤ) (mode : Mode) → neg_ℤ d.low ≤ℤ pos 0 → (z : ℤ) → IsQuotient n d up mode z → IsQuotient n (above_zero d) up mode z
only_above n d up mode low z h = elim (split n d up mode z h) [ inl a ↦ a.1 | inr b ↦ let negative = b.0 in absurd (omega (arith, ints)) ]

only_below : (n d : Interval) (up : ℤ) (mode : Mode) → d.high ≤ℤ pos 0 → (z : ℤ) → IsQuotient n d up mode z → IsQuotient (negated n) (above_zero (negated d)) up mode z
only_below n d up mode high z h = elim (split n d up mode z h) [ inl a ↦ let positive = a.0 in absurd (omega (arith, ints)) | inr b ↦ b.1 ]

pub above_alone : (n d : Interval) (up : ℤ) (mode : Mode) (i : Interval) → neg_ℤ d.low ≤ℤ pos 0 → IsLeast (IsQuotient n (above_zero d) up mode) i → IsLeast (IsQuotient n d up mode) i
above_alone n d up mode i low = same_least (IsQuotient n d up mode) (IsQuotient n (above_zero d) up mode) i (only_above n d up mode low) (from_above n d up mode)

pub below_alone : (n d : Interval) (up : ℤ) (mode : Mode) (i : Interval) → d.high ≤ℤ pos 0 → IsLeast (IsQuotient (negated n) (above_zero (negated d)) up mode) i → IsLeast (IsQuotient n d up mode) i
below_alone n d up mode i high = same_least (IsQuotient n d up mode) (IsQuotient (negated n) (above_zero (negated d)) up mode) i (only_below n d up mode high) (from_below n d up mode)

pub above_side : (n d : Interval) (up : ℤ) (mode : Mode) (i : Interval) → neg_ℤ d.low ≤ℤ pos 0 → IsLeastCapped (IsQuotient n (above_zero d) up mode) i → IsLeastCapped (IsQuotient n d up mode) i
above_side n d up mode i low = same_least_capped (IsQuotient n d up mode) (IsQuotient n (above_zero d) up mode) i (only_above n d up mode low) (from_above n d up mode)

pub below_side : (n d : Interval) (up : ℤ) (mode : Mode) (i : Interval) → d.high ≤ℤ pos 0 → IsLeastCapped (IsQuotient (negated n) (above_zero (negated d)) up mode) i → IsLeastCapped (IsQuotient n d up mode) i
below_side n d up mode i high = same_least_capped (IsQuotient n d up mode) (IsQuotient (negated n) (above_zero (negated d)) up mode) i (only_below n d up mode high) (from_below n d up mode)

pub over_gives : (n d : Interval) (up : ℤ) (mode : Mode) (p q i : Interval) → p ≡ span (capped (quotient up mode n.low d.low)) (capped (quotient up mode n.low d.high)) → q ≡ span (capped (quotient up mode n.high d.low)) (capped (quotient up mode n.high d.high)) → i ≡ joined p q → n.low ≤ℤ n.high → d.low ≤ℤ d.high → pos 1 ≤ℤ d.low → IsLeastCapped (IsQuotient n d up mode) i
over_gives n d up mode p q i e g h k l s =
    subst (λ r. IsLeastCapped (IsQuotient n d up mode) r) (sym (corners_from (λ x y. capped (quotient up mode x y)) n d p q i e g h)) (positive_least_capped n d up mode k l s)

pub quotient_gives : (n d : Interval) (up : ℤ) (mode : Mode) (above below result : Option Interval) → (above ≡ None) ↔ (d.high ≤ℤ pos 0) → IfSome above (λ i. IsLeastCapped (IsQuotient n (above_zero d) up mode) i) → (below ≡ None) ↔ (neg_ℤ d.low ≤ℤ pos 0) → IfSome below (λ i. IsLeastCapped (IsQuotient (negated n) (above_zero (negated d)) up mode) i) → result ≡ either_of above below → IfSome result (λ i. IsLeastCapped (IsQuotient n d up mode) i)
quotient_gives n d up mode (Some i) (Some j) result no_above above no_below below e =
    subst (λ r. IfSome r (λ k. IsLeastCapped (IsQuotient n d up mode) k)) (sym e) (both_sides n d up mode i j above below)
quotient_gives n d up mode (Some i) None result no_above above no_below below e =
    subst (λ r. IfSome r (λ k. IsLeastCapped (IsQuotient n d up mode) k)) (sym e) (above_side n d up mode i (no_below.0 refl) above)
quotient_gives n d up mode None (Some j) result no_above above no_below below e =
    subst (λ r. IfSome r (λ k. IsLeastCapped (IsQuotient n d up mode) k)) (sym e) (below_side n d up mode j (no_above.0 refl) below)
quotient_gives n d up mode None None result no_above above no_below below e =
    subst (λ r. IfSome r (λ k. IsLeastCapped (IsQuotient n d up mode) k)) (sym e) tt

pub no_quotient : (d : Interval) (above below result : Option Interval) → (above ≡ None) ↔ (d.high ≤ℤ pos 0) → (below ≡ None) ↔ (neg_ℤ d.low ≤ℤ pos 0) → result ≡ either_of above below → d.low ≤ℤ d.high → (result ≡ None) ↔ ((d.low ≡ pos 0) × (d.high ≡ pos 0))
no_quotient d (Some i) (Some j) result no_above no_below e ordered =
    ((λ f. cc), (λ zero_alone. let f : Some i ≡ None = no_above.1 (omega (arith, ints)) in cc))
no_quotient d (Some i) None result no_above no_below e ordered =
    ((λ f. cc), (λ zero_alone. let f : Some i ≡ None = no_above.1 (omega (arith, ints)) in cc))
no_quotient d None (Some j) result no_above no_below e ordered =
    ((λ f. cc), (λ zero_alone. let f : Some j ≡ None = no_below.1 (omega (arith, ints)) in cc))
no_quotient d None None result no_above no_below e ordered =
    let high : d.high ≤ℤ pos 0 = no_above.0 refl in
    let low : neg_ℤ d.low ≤ℤ pos 0 = no_below.0 refl in
    ((λ f. (omega (arith, ints), omega (arith, ints))), (λ zero_alone. e))

pub quotient_from : (n d m e : Interval) (up : ℤ) (mode : Mode) (above below result : Option Interval) → m ≡ negated n → e ≡ negated d → (above ≡ None) ↔ (d.high ≤ℤ pos 0) → IfSome above (λ i. IsLeastCapped (IsQuotient n (above_zero d) up mode) i) → (below ≡ None) ↔ (e.high ≤ℤ pos 0) → IfSome below (λ i. IsLeastCapped (IsQuotient m (above_zero e) up mode) i) → result ≡ either_of above below → IfSome result (λ i. IsLeastCapped (IsQuotient n d up mode) i)
quotient_from n d m e up mode above below result m_is e_is no_above over no_below under r =
    quotient_gives n d up mode above below result no_above over
    (subst (λ k. (below ≡ None) ↔ (k.high ≤ℤ pos 0)) e_is no_below)
    (subst (λ k. IfSome below (λ i. IsLeastCapped (IsQuotient (negated n) (above_zero k) up mode) i)) e_is
    (subst (λ k. IfSome below (λ i. IsLeastCapped (IsQuotient k (above_zero e) up mode) i)) m_is under)) r

pub no_quotient_from : (d e : Interval) (above below result : Option Interval) → e ≡ negated d → (above ≡ None) ↔ (d.high ≤ℤ pos 0) → (below ≡ None) ↔ (e.high ≤ℤ pos 0) → result ≡ either_of above below → d.low ≤ℤ d.high → (result ≡ None) ↔ ((d.low ≡ pos 0) × (d.high ≡ pos 0))
no_quotient_from d e above below result e_is no_above no_below r ordered =
    no_quotient d above below result no_above (subst (λ k. (below ≡ None) ↔ (k.high ≤ℤ pos 0)) e_is no_below) r ordered

-- the ends along a line, as the calls give them
pub span_from : (i : Interval) (p q x y : ℤ) → i ≡ span p q → p ≡ x → q ≡ y → i ≡ span x y
span_from i p q x y e f g = e ∙ ap (λ t. span t q) f ∙ ap (λ t. span x t) g

pub capped_from : (up : ℤ) (mode : Mode) (r n d x y : ℤ) → r ≡ capped (quotient up mode n d) → n ≡ x → d ≡ y → r ≡ capped (quotient up mode x y)
capped_from up mode r n d x y e f g = e ∙ ap (λ t. capped (quotient up mode t d)) f ∙ ap (λ t. capped (quotient up mode x t)) g
