-- Terms by the signs of their coefficients.
use Rattle.std.proofs.Common.{◌≡◌, ℕ, zero, suc, ◌+◌, ◌-◌, ◌*◌, ◌^◌, ◌<◌, ◌≤◌, Bool, true, false, cond, eqb, ℤ, pos, negsuc, neg_ℤ, ◌≤ℤ◌, ◌<ℤ◌, List, length, get_or, Option, Some, None, ◌⊎◌, inl, inr, refl, sym, ap, subst, ◌∙◌, arith}
use Rattle.std.specs.Prelude.{unsigned_abs, int_lt}
use Rattle.std.proofs.lemmas.Int.{ints}
use Rattle.diff_bounds.specs.Matrix.{word, none}
use Rattle.diff_bounds.specs.Numbers.{number_of, word_of, added, lesser, cut, times}
use Rattle.diff_bounds.specs.FormSums.{sum_of, IsWithin, ArePair}
use Rattle.diff_bounds.specs.Upper.{term, terms, without, by_zero, by_pair, least_to}
use Rattle.std.specs.Int.{int_min}
use Rattle.std.proofs.lemmas.Int.{clamps, by_lt_z}
use Rattle.std.proofs.lemmas.Bool.{ne_eqb, eq-eqb, cases_eq}
use Rattle.diff_bounds.proofs.Bounded.{IsNumber}

pub term_zero : (w : ℕ → ℕ → ℤ) (place : ℕ) (c : ℤ) → c ≡ pos 0 → term w place c ≡ Some (pos 0)
term_zero w place c e = rw e refl

pub term_positive : (w : ℕ → ℕ → ℤ) (place : ℕ) (c : ℤ) → pos 1 ≤ℤ c → term w place c ≡ times (unsigned_abs c) (number_of (w place 0))
term_positive w place (pos zero) h = absurd (omega (arith, ints))
term_positive w place (pos (suc k)) h = refl
term_positive w place (negsuc k) h = absurd (omega (arith, ints))

pub term_negative : (w : ℕ → ℕ → ℤ) (place : ℕ) (c : ℤ) → c <ℤ pos 0 → term w place c ≡ times (unsigned_abs (neg_ℤ c)) (number_of (w 0 place))
term_negative w place (pos k) h = absurd (omega (arith, ints))
term_negative w place (negsuc k) h = refl

pub negative_along : (n : ℕ) (m : List ℤ) (place at : ℕ) (c r s f x : ℤ) → sum_of r ≡ times (unsigned_abs f) (number_of x) → c <ℤ pos 0 → s ≡ r → f ≡ neg_ℤ c → at ≡ 0 * n + place → x ≡ get_or m at (pos 0) → sum_of s ≡ term (word n m) place c
negative_along n m place at c r s f x is h e g k l =
    ap sum_of e ∙ is ∙ ap (λ (z : ℤ). times (unsigned_abs z) (number_of x)) g ∙ ap (λ (z : ℤ). times (unsigned_abs (neg_ℤ c)) (number_of z)) (l ∙ ap (λ (i : ℕ). get_or m i (pos 0)) k) ∙ sym (term_negative (word n m) place c h)

pub terms_more : (w : ℕ → ℕ → ℤ) (c : ℕ → ℤ) (k : ℕ) (total part d r s total2 part2 : ℤ) → sum_of total ≡ terms w c k → s ≡ r → total2 ≡ total → part2 ≡ part → d ≡ c (k + 1) → sum_of part ≡ term w (k + 1) d → sum_of r ≡ added (sum_of total2) (sum_of part2) → sum_of s ≡ terms w c (k + 1)
terms_more w c k total part d r s total2 part2 h e t q f g is =
    let next : k + 1 ≡ suc k = omega arith in
    ap sum_of e ∙ is ∙ ap (λ (z : ℤ). added (sum_of z) (sum_of part2)) t ∙ ap (λ (z : ℤ). added (sum_of total) (sum_of z)) q
    ∙ ap (λ (o : Option ℤ). added o (sum_of part)) h ∙ ap (λ (o : Option ℤ). added (terms w c k) o) (g ∙ ap (λ (z : ℤ). term w (k + 1) z) f)
    ∙ subst (λ (n : ℕ). added (terms w c k) (term w n (c n)) ≡ terms w c n) (sym next) refl

pub within_along : (n : ℕ) (x y : ℤ) → y ≡ x → IsWithin n x → IsWithin n y
within_along n x y e h = subst (λ (z : ℤ). IsWithin n z) (sym e) h

-- ---- no term is left out
without_none : (c : ℕ → ℤ) (k : ℕ) → 0 < k → without 0 0 c k ≡ c k
without_none c k h = rw (ne_eqb k 0 (λ e. omega arith)) refl

pub terms_without_none : (w : ℕ → ℕ → ℤ) (c : ℕ → ℤ) (n : ℕ) → terms w (without 0 0 c) n ≡ terms w c n
terms_without_none w c zero = refl
terms_without_none w c (suc n) = ap (λ (o : Option ℤ). added o (term w (suc n) (without 0 0 c (suc n)))) (terms_without_none w c n) ∙ ap (λ (z : ℤ). added (terms w c n) (term w (suc n) z)) (without_none c (suc n) (omega arith))

-- ---- pairs
pub pair_is : (w : ℕ → ℕ → ℤ) (c : ℕ → ℤ) (high : ℤ) (n x y : ℕ) (p q : ℤ) → pos 1 ≤ℤ p → q ≡ neg_ℤ p → by_pair w c high n x y p q ≡ cut (added (times (unsigned_abs p) (number_of (w x y))) (added (terms w (without x y c) n) (Some high)))
pair_is w c high n x y (pos zero) q h e = absurd (omega (arith, ints))
pair_is w c high n x y (negsuc k) q h e = absurd (omega (arith, ints))
pair_is w c high n x y (pos (suc k)) q h e = rw (e, eq-eqb k k refl) refl

pub pair_not_positive : (w : ℕ → ℕ → ℤ) (c : ℕ → ℤ) (high : ℤ) (n x y : ℕ) (p q : ℤ) → p <ℤ pos 1 → by_pair w c high n x y p q ≡ None
pair_not_positive w c high n x y (pos zero) q h = refl
pair_not_positive w c high n x y (pos (suc k)) q h = absurd (omega (arith, ints))
pair_not_positive w c high n x y (negsuc k) q h = refl

pub pair_not_opposite : (w : ℕ → ℕ → ℤ) (c : ℕ → ℤ) (high : ℤ) (n x y : ℕ) (p q : ℤ) → (q ≡ neg_ℤ p → ⊥) → by_pair w c high n x y p q ≡ None
pair_not_opposite w c high n x y (pos zero) q h = refl
pair_not_opposite w c high n x y (negsuc k) q h = refl
pair_not_opposite w c high n x y (pos (suc k)) (pos j) h = refl
pair_not_opposite w c high n x y (pos (suc k)) (negsuc j) h = rw (ne_eqb k j (λ e. h (ap negsuc (sym e)))) refl

-- ---- the least so far
pub lesser_word : (o p : Option ℤ) → IsNumber o → IsNumber p → int_min (word_of o) (word_of p) ≡ word_of (lesser o p)
lesser_word (Some x) (Some y) h k = refl
lesser_word (Some x) None h k = omega (arith, ints, clamps, h)
lesser_word None (Some y) h k = omega (arith, ints, clamps, k)
lesser_word None None h k = refl

pub least_more : (f : ℕ → Option ℤ) (k : ℕ) (best one : ℤ) → IsNumber (least_to k f) → IsNumber (f (k + 1)) → best ≡ word_of (least_to k f) → one ≡ word_of (f (k + 1)) → int_min best one ≡ word_of (least_to (k + 1) f)
least_more f k best one h g e l =
    let next : k + 1 ≡ suc k = omega arith in
    rw (e, l) (lesser_word (least_to k f) (f (k + 1)) h g) ∙ subst (λ (n : ℕ). word_of (lesser (least_to k f) (f n)) ≡ word_of (least_to n f)) (sym next) refl

sum_at : (x : ℤ) → unsigned_abs x < 10 ^ 37 → sum_of x ≡ Some x
sum_at x h = grind (arith, ints)

-- the values that calls pass on, put together
pub zero_along : (w : ℕ → ℕ → ℤ) (c : ℕ → ℤ) (high : ℤ) (n : ℕ) (t p r t2 p2 h2 r2 : ℤ) → r ≡ word_of (cut (sum_of p2)) → r2 ≡ r → p2 ≡ p → sum_of p ≡ added (sum_of t2) (sum_of h2) → t2 ≡ t → h2 ≡ high → sum_of t ≡ terms w (without 0 0 c) n → unsigned_abs high < 10 ^ 37 → r2 ≡ word_of (by_zero w c high n)
zero_along w c high n t p r t2 p2 h2 r2 is e f g k l m small =
    let inner : sum_of p2 ≡ added (terms w c n) (Some high) =
    ap sum_of f ∙ g ∙ ap (λ (z : ℤ). added (sum_of z) (sum_of h2)) k ∙ ap (λ (o : Option ℤ). added o (sum_of h2)) (m ∙ terms_without_none w c n)
    ∙ ap (λ (o : Option ℤ). added (terms w c n) o) (ap sum_of l ∙ sum_at high small) in
    e ∙ is ∙ ap (λ (o : Option ℤ). word_of (cut o)) inner

pub pair_along : (w : ℕ → ℕ → ℤ) (c : ℕ → ℤ) (high : ℤ) (n x y : ℕ) (f f2 p q t s r t2 s2 r2 r3 : ℤ) → r2 ≡ word_of (cut (sum_of r3)) → r3 ≡ r → sum_of r ≡ added (sum_of t2) (sum_of s2) → t2 ≡ t → s2 ≡ s → sum_of t ≡ times (unsigned_abs f2) (number_of (w x y)) → sum_of s ≡ added (terms w (without x y c) n) (Some high) → f2 ≡ f → pos 1 ≤ℤ f → p ≡ f → q ≡ neg_ℤ f → r2 ≡ word_of (by_pair w c high n x y p q)
pair_along w c high n x y f f2 p q t s r t2 s2 r2 r3 is e g k l m o u h a b =
    let inner : sum_of r3 ≡ added (times (unsigned_abs f) (number_of (w x y))) (added (terms w (without x y c) n) (Some high)) =
    ap sum_of e ∙ g ∙ ap (λ (z : ℤ). added (sum_of z) (sum_of s2)) k ∙ ap (λ (z : ℤ). added (sum_of t) (sum_of z)) l
    ∙ ap (λ (v : Option ℤ). added v (sum_of s)) (m ∙ ap (λ (z : ℤ). times (unsigned_abs z) (number_of (w x y))) u) ∙ ap (λ (v : Option ℤ). added (times (unsigned_abs f) (number_of (w x y))) v) o in
    is ∙ ap (λ (v : Option ℤ). word_of (cut v)) inner ∙ ap word_of (sym (pair_is w c high n x y f (neg_ℤ f) h refl)) ∙ ap (λ (z : ℤ). word_of (by_pair w c high n x y z (neg_ℤ f))) (sym a) ∙ ap (λ (z : ℤ). word_of (by_pair w c high n x y p z)) (sym b)

pub pair_apart : (w : ℕ → ℕ → ℤ) (c : ℕ → ℤ) (high : ℤ) (n x y : ℕ) (p q : ℤ) → (ArePair p q → ⊥) → by_pair w c high n x y p q ≡ None
pair_apart w c high n x y (pos zero) q h = refl
pair_apart w c high n x y (negsuc k) q h = refl
pair_apart w c high n x y (pos (suc k)) (pos j) h = refl
pair_apart w c high n x y (pos (suc k)) (negsuc j) h = rw (ne_eqb k j (λ e. h (record { positive = omega (arith, ints); opposite = ap negsuc (sym e) }))) refl

pub positive_along : (n : ℕ) (m : List ℤ) (place at : ℕ) (c r s f x : ℤ) → sum_of r ≡ times (unsigned_abs f) (number_of x) → pos 1 ≤ℤ c → s ≡ r → f ≡ c → at ≡ place * n + 0 → x ≡ get_or m at (pos 0) → sum_of s ≡ term (word n m) place c
positive_along n m place at c r s f x is h e g k l =
    ap sum_of e ∙ is ∙ ap (λ (z : ℤ). times (unsigned_abs z) (number_of x)) g ∙ ap (λ (z : ℤ). times (unsigned_abs c) (number_of z)) (l ∙ ap (λ (i : ℕ). get_or m i (pos 0)) k) ∙ sym (term_positive (word n m) place c h)
