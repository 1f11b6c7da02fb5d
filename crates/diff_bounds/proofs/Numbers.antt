-- Numbers that may be none: bounds and order.
use Rattle.std.proofs.Common.{◌≡◌, ◌≢◌, ℕ, zero, suc, ◌+◌, ◌*◌, ◌≤◌, Bool, true, false, cond, ℤ, pos, negsuc, neg_ℤ, ◌+ℤ◌, ◌-ℤ◌, ◌*ℤ◌, ◌≤ℤ◌, ◌<ℤ◌, Option, Some, None, refl, sym, ap, subst, ◌∙◌, arith}
use Rattle.std.specs.Prelude.{int_lt}
use Rattle.std.specs.Int.{int_min}
use Rattle.std.proofs.lemmas.Int.{ints, clamps, by_lt_z}
use Rattle.std.proofs.Math.Nat.{mul-le-mul_left}
use borrow.Author.Differences.{up, down}
use Rattle.diff_bounds.specs.Matrix.{none, largest, IsBound}
use Rattle.diff_bounds.specs.Paths.{cut_of}
use Rattle.diff_bounds.specs.Numbers.{number_of, added, lesser, cut, times, IsAbove, IsUnder}

-- ---- products with a natural number
pub parts_of_product : (k : ℕ) (x : ℤ) → up (pos k *ℤ x) + k * down x ≡ down (pos k *ℤ x) + k * up x
parts_of_product k (pos a) = omega (arith, ints)
parts_of_product zero (negsuc a) = omega (arith, ints)
parts_of_product (suc k) (negsuc a) = omega (arith, ints)

pub parts_of_minus_product : (k : ℕ) (x : ℤ) → up (negsuc k *ℤ x) + suc k * up x ≡ down (negsuc k *ℤ x) + suc k * down x
parts_of_minus_product k (pos zero) = omega (arith, ints)
parts_of_minus_product k (pos (suc a)) = omega (arith, ints)
parts_of_minus_product k (negsuc a) = omega (arith, ints)

-- two products with opposite factors
pub opposite_products : (k : ℕ) (x y : ℤ) → pos (suc k) *ℤ x +ℤ negsuc k *ℤ y ≡ pos (suc k) *ℤ (x -ℤ y)
opposite_products k x y =
    let parts : up (x -ℤ y) + (down x + up y) ≡ down (x -ℤ y) + (up x + down y) = omega (arith, ints) in
    omega (arith, ints, parts_of_product (suc k) x, parts_of_minus_product k y, parts_of_product (suc k) (x -ℤ y), ap (λ n. suc k * n) parts)

pub times_monotone : (k : ℕ) (x y : ℤ) → x ≤ℤ y → (pos k *ℤ x) ≤ℤ (pos k *ℤ y)
times_monotone k x y h =
    let less : up x + down y ≤ up y + down x = omega (arith, ints) in
    let more : k * (up x + down y) ≤ k * (up y + down x) = mul-le-mul_left k less in
    omega (arith, ints, parts_of_product k x, parts_of_product k y, more)

-- ---- a number cut
pub cut_above : (z : ℤ) → z ≤ℤ largest → z ≤ℤ cut_of z
cut_above z h = grind (arith, ints, clamps)

pub cut_monotone : (x y : ℤ) → x ≤ℤ y → cut_of x ≤ℤ cut_of y
cut_monotone x y h = grind (arith, ints, clamps)

-- ---- words as numbers
pub lt_true : (x y : ℤ) → x <ℤ y → int_lt x y ≡ true
lt_true x y h = grind (arith, ints)

le_false : (x y : ℤ) → y ≤ℤ x → int_lt x y ≡ false
le_false x y h = grind (arith, ints)

pub number_at : (x : ℤ) → IsBound x → number_of x ≡ Some x
number_at x h = by_bool (int_lt x none) (lt_true x none h)
  where
    by_bool : (b : Bool) → b ≡ true → cond b (Some x) None ≡ Some x
    by_bool b e = rw e refl

pub number_beyond : (x : ℤ) → none ≤ℤ x → number_of x ≡ None
number_beyond x h = by_bool (int_lt x none) (le_false x none h)
  where
    by_bool : (b : Bool) → b ≡ false → cond b (Some x) None ≡ None
    by_bool b e = rw e refl

-- ---- bounds
pub above_number : (t x : ℤ) → (IsBound x → t ≤ℤ x) → IsAbove t (number_of x)
above_number t x h = by_lt_z x none
    (λ (lt : x <ℤ none). subst (λ (o : Option ℤ). IsAbove t o) (sym (number_at x lt)) (h lt))
    (λ (le : none ≤ℤ x). subst (λ (o : Option ℤ). IsAbove t o) (sym (number_beyond x le)) tt)

pub above_added : (t s : ℤ) (o p : Option ℤ) → IsAbove t o → IsAbove s p → IsAbove (t +ℤ s) (added o p)
above_added t s (Some x) (Some y) h k = omega (arith, ints, h, k)
above_added t s (Some x) None h k = tt
above_added t s None p h k = tt

pub above_lesser : (t : ℤ) (o p : Option ℤ) → IsAbove t o → IsAbove t p → IsAbove t (lesser o p)
above_lesser t (Some x) (Some y) h k = omega (arith, ints, clamps, h, k)
above_lesser t (Some x) None h k = h
above_lesser t None p h k = k

cut_bound : (z : ℤ) → IsBound (cut_of z) → z ≤ℤ largest
cut_bound z h = grind (arith, ints, clamps)

pub above_cut : (t : ℤ) (o : Option ℤ) → IsAbove t o → IsAbove t (cut o)
above_cut t (Some z) h = above_number t (cut_of z) (λ b. let more : z ≤ℤ cut_of z = cut_above z (cut_bound z b) in omega (arith, ints, h, more))
above_cut t None h = tt

pub above_times : (k : ℕ) (v : ℤ) (o : Option ℤ) → IsAbove v o → IsAbove (pos k *ℤ v) (times k o)
above_times k v (Some x) h = above_cut (pos k *ℤ v) (Some (pos k *ℤ x)) (times_monotone k v x h)
above_times k v None h = tt

-- ---- order
pub under_number : (x y : ℤ) → x ≤ℤ y → IsUnder (number_of x) (number_of y)
under_number x y h = by_lt_z y none
    (λ (lt : y <ℤ none).
    let less : IsBound x = omega (arith, ints) in
    subst (λ (o : Option ℤ). IsUnder (number_of x) o) (sym (number_at y lt)) (subst (λ (o : Option ℤ). IsUnder o (Some y)) (sym (number_at x less)) h))
    (λ (le : none ≤ℤ y). subst (λ (o : Option ℤ). IsUnder (number_of x) o) (sym (number_beyond y le)) (under_none (number_of x)))
  where
    under_none : (o : Option ℤ) → IsUnder o None
    under_none (Some x) = tt
    under_none None = tt

pub under_none : (o : Option ℤ) → IsUnder o None
under_none (Some x) = tt
under_none None = tt

pub under_added : (o p q r : Option ℤ) → IsUnder o p → IsUnder q r → IsUnder (added o q) (added p r)
under_added (Some x) (Some y) (Some z) (Some v) h k = omega (arith, ints, h, k)
under_added (Some x) (Some y) None (Some v) h k = absurd k
under_added (Some x) (Some y) q None h k = under_none (added (Some x) q)
under_added None (Some y) q r h k = absurd h
under_added o None q r h k = under_none (added o q)

pub under_lesser : (o p q r : Option ℤ) → IsUnder o p → IsUnder q r → IsUnder (lesser o q) (lesser p r)
under_lesser (Some x) (Some y) (Some z) (Some v) h k = omega (arith, ints, clamps, h, k)
under_lesser (Some x) (Some y) None (Some v) h k = absurd k
under_lesser (Some x) (Some y) (Some z) None h k = omega (arith, ints, clamps, h)
under_lesser (Some x) (Some y) None None h k = h
under_lesser None (Some y) q r h k = absurd h
under_lesser (Some x) None (Some z) (Some v) h k = omega (arith, ints, clamps, k)
under_lesser None None (Some z) (Some v) h k = k
under_lesser o None None (Some v) h k = absurd k
under_lesser o None q None h k = under_none (lesser o q)

pub under_cut : (o p : Option ℤ) → IsUnder o p → IsUnder (cut o) (cut p)
under_cut (Some x) (Some y) h = under_number (cut_of x) (cut_of y) (cut_monotone x y h)
under_cut None (Some y) h = absurd h
under_cut o None h = under_none (cut o)

pub under_times : (k : ℕ) (o p : Option ℤ) → IsUnder o p → IsUnder (times k o) (times k p)
under_times k (Some x) (Some y) h = under_cut (Some (pos k *ℤ x)) (Some (pos k *ℤ y)) (times_monotone k x y h)
under_times k None (Some y) h = absurd h
under_times k o None h = under_none (times k o)
