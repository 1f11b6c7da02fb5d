-- Least intervals by their ends.
use Rattle.std.proofs.Common.{◌≡◌, ℕ, suc, ◌+◌, ◌*◌, inl, inr, Bool, true, false, cond, ℤ, pos, negsuc, ◌+ℤ◌, ◌-ℤ◌, ◌*ℤ◌, ◌≤ℤ◌, refl, sym, ap, ◌∙◌, subst, arith}
use Rattle.std.specs.Prelude.{int_lt}
use Rattle.std.specs.Int.{int_max, int_min}
use Rattle.std.proofs.lemmas.Int.{ints, clamps}
use Rattle.std.proofs.lemmas.Nat.{mul-le}
use Rattle.std.proofs.Math.IntN.{*ℤ_comm}
use borrow.Author.Differences.{up, down}
use Rattle.interval_domain.specs.declared.bounds.Interval.{Interval}
use Rattle.interval_domain.specs.Bounds.{Holds, IsLeast}
use Rattle.interval_domain.specs.Results.{IsOfEither, IsSum, IsDifference, IsProduct}
use Rattle.interval_domain.specs.Corners.{interval, span, joined, corners}

-- ---- of two numbers, one is the lesser
one_of : (P : ℤ → Type 0) (b : Bool) (x y : ℤ) → P x → P y → P (cond b x y)
one_of P true x y h k = h
one_of P false x y h k = k

pub min_is_one : (P : ℤ → Type 0) (x y : ℤ) → P x → P y → P (int_min x y)
min_is_one P x y h k = one_of P (int_lt y x) y x k h

pub max_is_one : (P : ℤ → Type 0) (x y : ℤ) → P x → P y → P (int_max x y)
max_is_one P x y h k = one_of P (int_lt y x) x y h k

pub low_held : (i : Interval) → i.low ≤ℤ i.high → Holds i i.low
low_held i h = (omega (arith, ints), h)

pub high_held : (i : Interval) → i.low ≤ℤ i.high → Holds i i.high
high_held i h = (h, omega (arith, ints))

-- ---- hull, sums, differences
of_either : (a b : Interval) (z : ℤ) → IsOfEither a b z → Holds (joined a b) z
of_either a b z (inl (h, k)) = (omega (arith, ints, clamps), omega (arith, ints, clamps))
of_either a b z (inr (h, k)) = (omega (arith, ints, clamps), omega (arith, ints, clamps))

pub joined_is_least : (a b : Interval) → a.low ≤ℤ a.high → b.low ≤ℤ b.high → IsLeast (IsOfEither a b) (joined a b)
joined_is_least a b h k = record {
  holds = of_either a b;
  low_is_one = min_is_one (IsOfEither a b) a.low b.low (inl (low_held a h)) (inr (low_held b k));
  high_is_one = max_is_one (IsOfEither a b) a.high b.high (inl (high_held a h)) (inr (high_held b k));
}

sum_held : (a b : Interval) (z : ℤ) → IsSum a b z → Holds (interval (a.low +ℤ b.low) (a.high +ℤ b.high)) z
sum_held a b z (x, y, h, k, e) = (omega (arith, ints), omega (arith, ints))

pub sums_are_least : (a b : Interval) → a.low ≤ℤ a.high → b.low ≤ℤ b.high → IsLeast (IsSum a b) (interval (a.low +ℤ b.low) (a.high +ℤ b.high))
sums_are_least a b h k = record {
  holds = sum_held a b;
  low_is_one = (a.low, b.low, low_held a h, low_held b k, refl);
  high_is_one = (a.high, b.high, high_held a h, high_held b k, refl);
}

difference_held : (a b : Interval) (z : ℤ) → IsDifference a b z → Holds (interval (a.low -ℤ b.high) (a.high -ℤ b.low)) z
difference_held a b z (x, y, h, k, e) = (omega (arith, ints), omega (arith, ints))

pub differences_are_least : (a b : Interval) → a.low ≤ℤ a.high → b.low ≤ℤ b.high → IsLeast (IsDifference a b) (interval (a.low -ℤ b.high) (a.high -ℤ b.low))
differences_are_least a b h k = record {
  holds = difference_held a b;
  low_is_one = (a.low, b.high, low_held a h, high_held b k, refl);
  high_is_one = (a.high, b.low, high_held a h, low_held b k, refl);
}

-- ---- corners
-- A function of two numbers that lies, along each line, between what it is at the line's ends.
pub record IsBetweenEnds (f : ℤ → ℤ → ℤ) (a b : Interval) : Type 0 where
  pub along_left : (x y : ℤ) → Holds a x → Holds b y → Holds (span (f a.low y) (f a.high y)) (f x y)
  pub along_right : (x y : ℤ) → Holds a x → Holds b y → Holds (span (f x b.low) (f x b.high)) (f x y)

between_spans : (p q : Interval) (x y z : ℤ) → Holds p x → Holds q y → Holds (span x y) z → Holds (joined p q) z
between_spans p q x y z h k l = (omega (arith, ints, clamps), omega (arith, ints, clamps))

pub corners_hold : (f : ℤ → ℤ → ℤ) (a b : Interval) → a.low ≤ℤ a.high → IsBetweenEnds f a b → (x y : ℤ) → Holds a x → Holds b y → Holds (corners f a b) (f x y)
corners_hold f a b h between x y k l =
    between_spans (span (f a.low b.low) (f a.low b.high)) (span (f a.high b.low) (f a.high b.high)) (f a.low y) (f a.high y) (f x y)
    (between.along_right a.low y (low_held a h) l) (between.along_right a.high y (high_held a h) l) (between.along_left x y k l)

-- the ends of the corners are corners
pub corners_are_ones : (R : ℤ → Type 0) (f : ℤ → ℤ → ℤ) (a b : Interval) → a.low ≤ℤ a.high → b.low ≤ℤ b.high → ((x y : ℤ) → Holds a x → Holds b y → R (f x y)) → R (corners f a b).low × R (corners f a b).high
corners_are_ones R f a b h k one =
    let low = low_held a h in
    let high = high_held a h in
    let first = low_held b k in
    let last = high_held b k in
    let ll = one a.low b.low low first in
    let lh = one a.low b.high low last in
    let hl = one a.high b.low high first in
    let hh = one a.high b.high high last in (
      min_is_one R (int_min (f a.low b.low) (f a.low b.high)) (int_min (f a.high b.low) (f a.high b.high)) (min_is_one R (f a.low b.low) (f a.low b.high) ll lh) (min_is_one R (f a.high b.low) (f a.high b.high) hl hh),
      max_is_one R (int_max (f a.low b.low) (f a.low b.high)) (int_max (f a.high b.low) (f a.high b.high)) (max_is_one R (f a.low b.low) (f a.low b.high) ll lh) (max_is_one R (f a.high b.low) (f a.high b.high) hl hh),
    )

-- ---- products
-- the two parts of a product
pub parts_of_product : (x y : ℤ) → up (x *ℤ y) + (up x * down y + down x * up y) ≡ down (x *ℤ y) + (up x * up y + down x * down y)
parts_of_product (pos a) (pos b) = omega (arith, ints)
parts_of_product (pos a) (negsuc b) = omega (arith, ints)
parts_of_product (negsuc a) (pos b) = omega (arith, ints)
parts_of_product (negsuc a) (negsuc b) = omega (arith, ints)

pub times_grows : (x y : ℤ) (n : ℕ) → x ≤ℤ y → (x *ℤ pos n) ≤ℤ (y *ℤ pos n)
times_grows x y n h =
    omega (arith, ints, parts_of_product x (pos n), parts_of_product y (pos n), mul-le (up x + down y) n (up y + down x) n (omega (arith, ints)) (omega arith))

pub times_falls : (x y : ℤ) (n : ℕ) → x ≤ℤ y → (y *ℤ negsuc n) ≤ℤ (x *ℤ negsuc n)
times_falls x y n h =
    omega (arith, ints, parts_of_product x (negsuc n), parts_of_product y (negsuc n), mul-le (up x + down y) (suc n) (up y + down x) (suc n) (omega (arith, ints)) (omega arith))

pub in_order : (p q r : ℤ) → p ≤ℤ q → q ≤ℤ r → Holds (span p r) q
in_order p q r h k = (omega (arith, ints, clamps), omega (arith, ints, clamps))

pub in_other_order : (p q r : ℤ) → r ≤ℤ q → q ≤ℤ p → Holds (span p r) q
in_other_order p q r h k = (omega (arith, ints, clamps), omega (arith, ints, clamps))

product_along : (a : Interval) (x y : ℤ) → Holds a x → Holds (span (a.low *ℤ y) (a.high *ℤ y)) (x *ℤ y)
product_along a x (pos n) (h, k) = in_order _ _ _ (times_grows a.low x n h) (times_grows x a.high n k)
product_along a x (negsuc n) (h, k) = in_other_order _ _ _ (times_falls x a.high n k) (times_falls a.low x n h)

product_across : (b : Interval) (x y : ℤ) → Holds b y → Holds (span (x *ℤ b.low) (x *ℤ b.high)) (x *ℤ y)
product_across b x y h =
    let P : ℤ → ℤ → ℤ → Type 0 = λ p q r. Holds (span p q) r in
    subst (λ r. P (x *ℤ b.low) (x *ℤ b.high) r) (*ℤ_comm y x) (subst (λ q. P (x *ℤ b.low) q (y *ℤ x)) (*ℤ_comm b.high x) (subst (λ p. P p (b.high *ℤ x) (y *ℤ x)) (*ℤ_comm b.low x) (product_along b y x h)))

products_between : (a b : Interval) → IsBetweenEnds (λ x y. x *ℤ y) a b
products_between a b = record {
  along_left = λ x y h k. product_along a x y h;
  along_right = λ x y h k. product_across b x y k;
}

pub product_held : (a b : Interval) → a.low ≤ℤ a.high → (z : ℤ) → IsProduct a b z → Holds (corners (λ x y. x *ℤ y) a b) z
product_held a b h z (x, y, k, l, e) = subst (λ t. Holds (corners (λ x y. x *ℤ y) a b) t) (sym e) (corners_hold (λ x y. x *ℤ y) a b h (products_between a b) x y k l)

pub products_are_least : (a b : Interval) → a.low ≤ℤ a.high → b.low ≤ℤ b.high → IsLeast (IsProduct a b) (corners (λ x y. x *ℤ y) a b)
products_are_least a b h k =
    let ends = corners_are_ones (IsProduct a b) (λ x y. x *ℤ y) a b h k (λ x y l m. (x, y, l, m, refl)) in
    record { holds = product_held a b h; low_is_one = ends.0; high_is_one = ends.1 }

-- every corner is a product
pub corner_is_product : (a b : Interval) (x y : ℤ) → Holds a x → Holds b y → IsProduct a b (x *ℤ y)
corner_is_product a b x y h k = (x, y, h, k, refl)

pub least_below_greatest : (p q r s : ℤ) → int_min (int_min p q) (int_min r s) ≤ℤ int_max (int_max p q) (int_max r s)
least_below_greatest p q r s = omega (arith, ints, clamps)

pub span_ordered : (p q : ℤ) → int_min p q ≤ℤ int_max p q
span_ordered p q = omega (arith, ints, clamps)

-- ---- what the calls give
pub hull_gives : (a b : Interval) (low high : ℤ) → low ≡ int_min a.low b.low → high ≡ int_max a.high b.high → a.low ≤ℤ a.high → b.low ≤ℤ b.high → IsLeast (IsOfEither a b) (interval low high)
hull_gives a b low high e f h k = rw (e, f) (joined_is_least a b h k)

pub add_gives : (a b : Interval) (low high : ℤ) → low ≡ a.low +ℤ b.low → high ≡ a.high +ℤ b.high → a.low ≤ℤ a.high → b.low ≤ℤ b.high → IsLeast (IsSum a b) (interval low high)
add_gives a b low high e f h k = rw (e, f) (sums_are_least a b h k)

pub sub_gives : (a b : Interval) (low high : ℤ) → low ≡ a.low -ℤ b.high → high ≡ a.high -ℤ b.low → a.low ≤ℤ a.high → b.low ≤ℤ b.high → IsLeast (IsDifference a b) (interval low high)
sub_gives a b low high e f h k = rw (e, f) (differences_are_least a b h k)

pub corners_from : (f : ℤ → ℤ → ℤ) (a b p q i : Interval) → p ≡ span (f a.low b.low) (f a.low b.high) → q ≡ span (f a.high b.low) (f a.high b.high) → i ≡ joined p q → i ≡ corners f a b
corners_from f a b p q i e g h =
    let join : Interval → Interval → Interval = λ r s. joined r s in
    h ∙ ap (λ r. join r q) e ∙ ap (λ s. join (span (f a.low b.low) (f a.low b.high)) s) g

pub mul_gives : (a b p q i : Interval) → p ≡ span (a.low *ℤ b.low) (a.low *ℤ b.high) → q ≡ span (a.high *ℤ b.low) (a.high *ℤ b.high) → i ≡ joined p q → a.low ≤ℤ a.high → b.low ≤ℤ b.high → IsLeast (IsProduct a b) i
mul_gives a b p q i e g h k l =
    subst (λ r. IsLeast (IsProduct a b) r) (sym (corners_from (λ x y. x *ℤ y) a b p q i e g h)) (products_are_least a b k l)
