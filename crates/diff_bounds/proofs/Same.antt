-- Bounds of forms whose coefficients are the same, and of changed forms.
use Rattle.std.proofs.Common.{◌≡◌, ℕ, zero, suc, ◌+◌, ◌-◌, ◌<◌, ◌≤◌, true, cond, eqb, List, ℤ, pos, negsuc, neg_ℤ, ◌*ℤ◌, ◌≤ℤ◌, Option, Some, None, refl, ap, ◌∙◌, arith}
use Rattle.std.proofs.lemmas.Int.{ints, clamps}
use Rattle.diff_bounds.specs.declared.form.lin.Lin.{Lin}
use Rattle.diff_bounds.specs.Forms.{coef, is_small}
use Rattle.diff_bounds.specs.Results.{multiple_of, scaled_coefs}
use Rattle.diff_bounds.proofs.Coefs.{coef-coefs_of}
use Rattle.diff_bounds.specs.Matrix.{word}
use Rattle.diff_bounds.specs.Numbers.{number_of, word_of, added, lesser, cut, times}
use Rattle.diff_bounds.specs.Upper.{term, terms, without, by_zero, by_pair, least_to, upper, coef_at, upper_of}
use Rattle.diff_bounds.specs.Assigned.{less_place, negated, upper_less, less_upper}
use Rattle.diff_bounds.specs.Changed.{IsChanged}

module _ (w : ℕ → ℕ → ℤ) (c d : ℕ → ℤ) (size : ℕ) (same : (k : ℕ) → 0 < k → k ≤ size → c k ≡ d k) where
  terms_same : (f g : ℕ → ℤ) (n : ℕ) → ((k : ℕ) → 0 < k → k ≤ n → f k ≡ g k) → terms w f n ≡ terms w g n
  terms_same f g zero h = refl
  terms_same f g (suc n) h =
      ap (λ (o : Option ℤ). added o (term w (suc n) (f (suc n)))) (terms_same f g n (λ k l m. h k l (omega arith)))
      ∙ ap (λ (z : ℤ). added (terms w g n) (term w (suc n) z)) (h (suc n) (omega arith) (omega arith))

  without_same : (x y k : ℕ) → 0 < k → k ≤ size → without x y c k ≡ without x y d k
  without_same x y k h l = ap (λ (z : ℤ). cond (eqb k x) (pos 0) (cond (eqb k y) (pos 0) z)) (same k h l)

  pair_same : (high : ℤ) (x y : ℕ) (p q : ℤ) → by_pair w c high size x y p q ≡ by_pair w d high size x y p q
  pair_same high x y (pos zero) q = refl
  pair_same high x y (negsuc k) q = refl
  pair_same high x y (pos (suc k)) (pos j) = refl
  pair_same high x y (pos (suc k)) (negsuc j) =
      ap (λ (o : Option ℤ). cond (eqb k j) (cut (added (times (suc k) (number_of (w x y))) (added o (Some high)))) None)
      (terms_same (without x y c) (without x y d) size (without_same x y))

  least_same : (f g : ℕ → Option ℤ) (n : ℕ) → ((k : ℕ) → 0 < k → k ≤ n → f k ≡ g k) → least_to n f ≡ least_to n g
  least_same f g zero h = refl
  least_same f g (suc n) h =
      ap (λ (o : Option ℤ). lesser o (f (suc n))) (least_same f g n (λ k l m. h k l (omega arith)))
      ∙ ap (λ (o : Option ℤ). lesser (least_to n g) o) (h (suc n) (omega arith) (omega arith))

  pair_at : (high : ℤ) (x y : ℕ) → 0 < x → x ≤ size → 0 < y → y ≤ size → by_pair w c high size x y (c x) (c y) ≡ by_pair w d high size x y (d x) (d y)
  pair_at high x y h l k m =
      pair_same high x y (c x) (c y) ∙ ap (λ (z : ℤ). by_pair w d high size x y z (c y)) (same x h l) ∙ ap (λ (z : ℤ). by_pair w d high size x y (d x) z) (same y k m)

  pub upper_same : (high : ℤ) → upper w c high size ≡ upper w d high size
  upper_same high =
      ap (λ (o : Option ℤ). lesser (cut (added o (Some high))) (least_to size (λ x. least_to size (λ y. by_pair w c high size x y (c x) (c y))))) (terms_same c d size same)
      ∙ ap (λ (o : Option ℤ). lesser (by_zero w d high size) o)
      (least_same (λ x. least_to size (λ y. by_pair w c high size x y (c x) (c y))) (λ x. least_to size (λ y. by_pair w d high size x y (d x) (d y))) size (λ x h l.
      least_same (λ y. by_pair w c high size x y (c x) (c y)) (λ y. by_pair w d high size x y (d x) (d y)) size (λ y k m. pair_at high x y h l k m)))

-- ---- a form times -1
pub minus_one : (z : ℤ) → z *ℤ negsuc 0 ≡ neg_ℤ z
minus_one (pos zero) = omega (arith, ints)
minus_one (pos (suc k)) = omega (arith, ints)
minus_one (negsuc k) = omega (arith, ints)

negated_coef : (form : Lin) (k : ℕ) → 0 < k → k ≤ 8 → coef_at (multiple_of form (negsuc 0)).coefs k ≡ neg_ℤ (coef_at form.coefs k)
negated_coef form k h l = coef-coefs_of (scaled_coefs form (negsuc 0)) (k - 1) (omega arith) ∙ minus_one (coef form (k - 1))

negated_high : (form : Lin) → form.constant.low ≤ℤ form.constant.high → (multiple_of form (negsuc 0)).constant.high ≡ neg_ℤ form.constant.low
negated_high form h = let e = minus_one form.constant.low in let f = minus_one form.constant.high in omega (arith, ints, clamps, e, f)

-- ---- a form with other coefficients
pub upper_of_changed : (size : ℕ) (m : List ℤ) (c : ℕ → ℤ) (form changed : Lin) → size ≤ 8 → IsChanged c form changed → upper_of size m changed ≡ upper (word (size + 1) m) c form.constant.high size
upper_of_changed size m c form changed few is =
    upper_same (word (size + 1) m) (coef_at changed.coefs) c size (λ k h l. is.coefs_ k h (omega arith)) changed.constant.high
    ∙ ap (λ (i : ℤ). upper (word (size + 1) m) c i size) (ap (λ i. i.high) is.constant)

pub upper_of_negated : (size : ℕ) (m : List ℤ) (c : ℕ → ℤ) (form changed : Lin) → size ≤ 8 → form.constant.low ≤ℤ form.constant.high → IsChanged c form changed → upper_of size m (multiple_of changed (negsuc 0)) ≡ upper (word (size + 1) m) (negated c) (neg_ℤ form.constant.low) size
upper_of_negated size m c form changed few ordered is =
    let low : changed.constant.low ≡ form.constant.low = ap (λ i. i.low) is.constant in
    let high : changed.constant.high ≡ form.constant.high = ap (λ i. i.high) is.constant in
    upper_same (word (size + 1) m) (coef_at (multiple_of changed (negsuc 0)).coefs) (negated c) size
    (λ k h l. negated_coef changed k h (omega arith) ∙ ap neg_ℤ (is.coefs_ k h (omega arith))) (multiple_of changed (negsuc 0)).constant.high
    ∙ ap (λ (z : ℤ). upper (word (size + 1) m) (negated c) z size) (negated_high changed (omega (arith, ints, low, high)) ∙ ap neg_ℤ low)

-- ---- the words of a row and of a column
pub row_word_is : (size : ℕ) (m : List ℤ) (form changed : Lin) (place : ℕ) → size ≤ 8 → is_small (less_place place (coef_at form.coefs) place) ≡ true → IsChanged (less_place place (coef_at form.coefs)) form changed → word_of (upper_of size m changed) ≡ word_of (upper_less (word (size + 1) m) place (coef_at form.coefs) form.constant.high size)
row_word_is size m form changed place few fits is = rw fits (ap word_of (upper_of_changed size m (less_place place (coef_at form.coefs)) form changed few is))

pub column_word_is : (size : ℕ) (m : List ℤ) (form changed opposite : Lin) (place : ℕ) → size ≤ 8 → form.constant.low ≤ℤ form.constant.high → is_small (less_place place (coef_at form.coefs) place) ≡ true → IsChanged (less_place place (coef_at form.coefs)) form changed → opposite ≡ multiple_of changed (negsuc 0) → word_of (upper_of size m opposite) ≡ word_of (less_upper (word (size + 1) m) place (coef_at form.coefs) form.constant.low size)
column_word_is size m form changed opposite place few ordered fits is e =
    rw fits (ap (λ (f : Lin). word_of (upper_of size m f)) e ∙ ap word_of (upper_of_negated size m (less_place place (coef_at form.coefs)) form changed few ordered is))
