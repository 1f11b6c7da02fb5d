-- What a demand makes of a matrix holds of the values that meet it.
use Rattle.std.proofs.Common.{◌≡◌, ◌≢◌, ℕ, zero, suc, ◌+◌, ◌*◌, ◌/◌, ◌<◌, ◌≤◌, Bool, true, false, cond, eqb, ℤ, pos, negsuc, neg_ℤ, ◌+ℤ◌, ◌-ℤ◌, ◌*ℤ◌, ◌≤ℤ◌, ◌<ℤ◌, List, Option, Some, None, ◌⊎◌, inl, inr, refl, sym, ap, subst, ◌∙◌, arith}
use Rattle.std.specs.Int.{int_min, int_div_euclid}
use Rattle.std.specs.Prelude.{unsigned_abs}
use Rattle.std.proofs.lemmas.Int.{ints, clamps, by_lt_z}
use Rattle.std.proofs.lemmas.Nat.{mod_below, div-add-mod'}
use Rattle.std.proofs.lemmas.Bool.{cases_eq, cases_Bool, eq-eqb, ne_eqb, eqb-true}
use borrow.Author.Differences.{up, down}
use Rattle.diff_bounds.specs.declared.form.lin.Lin.{Lin}
use Rattle.diff_bounds.specs.Forms.{dot}
use Rattle.diff_bounds.specs.Matrix.{none, IsBound}
use Rattle.diff_bounds.specs.Storages.{value_at, DifferBy, StandsIn}
use Rattle.diff_bounds.specs.Numbers.{word_of, IsAbove, IsUnder}
use Rattle.diff_bounds.specs.Upper.{upper, without, coef_at}
use Rattle.diff_bounds.specs.Values.{AreLower, total, worths, HasValue, IsOver}
use Rattle.diff_bounds.specs.Assigned.{negated}
use Rattle.diff_bounds.specs.Demanded.{divided, if_positive, if_negative, if_opposite, factor, demanded_by, demanded, lowered, AreDemanded, IsMet}
use Rattle.diff_bounds.proofs.Numbers.{parts_of_product, opposite_products, times_monotone}
use Rattle.diff_bounds.proofs.Sound.{upper_above}
use Rattle.diff_bounds.proofs.Mono.{upper_under}
use Rattle.diff_bounds.proofs.Assigned.{number_shown, differ_of, total_negated}
use Rattle.diff_bounds.proofs.Bounded.{IsNumber, upper_is, word_under}
use Rattle.diff_bounds.proofs.Forms.{total_of_form}

-- ---- quotients rounded down
abbrev floor : ℤ → ℕ → ℤ
floor u d = int_div_euclid u (pos d)

floor_parts : (u : ℤ) (d : ℕ) → 0 < d → ((pos d *ℤ floor u d) ≤ℤ u) × (u <ℤ (pos d *ℤ floor u d +ℤ pos d))
floor_parts (pos a) d h =
    let e = div-add-mod' a d in let f = mod_below a d h in
    (omega (arith, ints, e, f, parts_of_product d (pos (a / d))), omega (arith, ints, e, f, parts_of_product d (pos (a / d))))
floor_parts (negsuc a) d h =
    let e = div-add-mod' a d in let f = mod_below a d h in
    (omega (arith, ints, e, f, parts_of_product d (negsuc (a / d))), omega (arith, ints, e, f, parts_of_product d (negsuc (a / d))))

times_greater : (d : ℕ) (x y : ℤ) → x <ℤ y → (pos d *ℤ x +ℤ pos d) ≤ℤ (pos d *ℤ y)
times_greater d x y h =
    let more : (pos d *ℤ (x +ℤ pos 1)) ≤ℤ (pos d *ℤ y) = times_monotone d (x +ℤ pos 1) y (omega (arith, ints)) in
    let parts : up (x +ℤ pos 1) + down x ≡ down (x +ℤ pos 1) + up x + 1 = omega (arith, ints) in
    omega (arith, ints, more, parts_of_product d x, parts_of_product d (x +ℤ pos 1), ap (λ n. d * n) parts)

-- what, times d, is at most u, is at most the quotient
pub floor_greatest : (v u : ℤ) (d : ℕ) → 0 < d → (pos d *ℤ v) ≤ℤ u → v ≤ℤ floor u d
floor_greatest v u d h k = by_lt_z (floor u d) v
    (λ (lt : floor u d <ℤ v). absurd (let far = times_greater d (floor u d) v lt in let parts = floor_parts u d h in omega (arith, ints, far, parts.1)))
    (λ (le : v ≤ℤ floor u d). le)

pub floor_monotone : (x y : ℤ) (d : ℕ) → 0 < d → x ≤ℤ y → floor x d ≤ℤ floor y d
floor_monotone x y d h k = floor_greatest (floor x d) y d h (let parts = floor_parts x d h in omega (arith, ints, parts.0))

above_divided : (v : ℤ) (o : Option ℤ) (d : ℕ) → 0 < d → IsAbove (pos d *ℤ v) o → IsAbove v (divided o d)
above_divided v (Some u) d h k = floor_greatest v u d h k
above_divided v None d h k = tt

under_divided : (o p : Option ℤ) (d : ℕ) → 0 < d → IsUnder o p → IsUnder (divided o d) (divided p d)
under_divided (Some x) (Some y) d h k = floor_monotone x y d h k
under_divided (Some x) None d h k = tt
under_divided None (Some y) d h k = absurd k
under_divided None None d h k = tt

-- ---- a form without one or two of its terms
-- one term is left out
record IsBut (x : ℕ) (c rest : ℕ → ℤ) : Type 0 where
  gone : rest x ≡ pos 0
  kept : (k : ℕ) → 0 < k → (k ≡ x → ⊥) → rest k ≡ c k

total_but_before : (x : ℕ) (c rest v : ℕ → ℤ) (n : ℕ) → IsBut x c rest → n < x → total c v n ≡ total rest v n
unfolding dot
total_but_before x c rest v zero is h = refl
total_but_before x c rest v (suc n) is h =
    let same : rest (suc n) *ℤ v (suc n) ≡ c (suc n) *ℤ v (suc n) = ap (λ (z : ℤ). z *ℤ v (suc n)) (is.kept (suc n) (omega arith) (λ e. omega arith)) in
    omega (arith, ints, total_but_before x c rest v n is (omega arith))

total_but : (x : ℕ) (c rest v : ℕ → ℤ) (n : ℕ) → IsBut x c rest → 0 < x → x ≤ n → total c v n ≡ total rest v n +ℤ (c x *ℤ v x)
unfolding dot
total_but x c rest v zero is h k = absurd (omega arith)
total_but x c rest v (suc n) is h k =
    elim (cases_eq (suc n) x) as (λ _. total c v (suc n) ≡ total rest v (suc n) +ℤ (c x *ℤ v x)) [
      | inl e ↦
          let here : c (suc n) *ℤ v (suc n) ≡ c x *ℤ v x = ap (λ (i : ℕ). c i *ℤ v i) e in
          let gone : rest (suc n) *ℤ v (suc n) ≡ pos 0 = ap (λ (z : ℤ). z *ℤ v (suc n)) (ap rest e ∙ is.gone) ∙ zero_times (v (suc n)) in
          omega (arith, ints, total_but_before x c rest v n is (omega arith))
      | inr ne ↦
          let same : rest (suc n) *ℤ v (suc n) ≡ c (suc n) *ℤ v (suc n) = ap (λ (z : ℤ). z *ℤ v (suc n)) (is.kept (suc n) (omega arith) ne) in
          omega (arith, ints, total_but x c rest v n is h (omega arith))
    ]
  where
    zero_times : (z : ℤ) → pos 0 *ℤ z ≡ pos 0
    zero_times z = omega (arith, ints)

without_first : (x y : ℕ) (c : ℕ → ℤ) → without x y c x ≡ pos 0
without_first x y c = rw (eq-eqb x x refl) refl

without_second : (x y : ℕ) (c : ℕ → ℤ) → without x y c y ≡ pos 0
without_second x y c = by_bool (eqb y x)
  where
    by_bool : (b : Bool) → cond b (pos 0) (cond (eqb y y) (pos 0) (c y)) ≡ pos 0
    by_bool true = refl
    by_bool false = rw (eq-eqb y y refl) refl

without_other : (x y : ℕ) (c : ℕ → ℤ) (k : ℕ) → (k ≡ x → ⊥) → (k ≡ y → ⊥) → without x y c k ≡ c k
without_other x y c k ne apart_ = rw (ne_eqb k x ne, ne_eqb k y apart_) refl

-- with the first of two left out, the other one is left out
but_second : (x y : ℕ) (c : ℕ → ℤ) → IsBut y (without x 0 c) (without x y c)
but_second x y c = record {
  gone = without_second x y c;
  kept = λ k h ne. elim (cases_eq k x) as (λ _. without x y c k ≡ without x 0 c k) [
    | inl e ↦ ap (without x y c) e ∙ without_first x y c ∙ sym (ap (without x 0 c) e ∙ without_first x 0 c)
    | inr apart_ ↦ without_other x y c k apart_ ne ∙ sym (without_other x 0 c k apart_ (λ e. omega arith))
  ];
}

but_first : (x : ℕ) (c : ℕ → ℤ) → IsBut x c (without x 0 c)
but_first x c = record { gone = without_first x 0 c; kept = λ k h ne. without_other x 0 c k ne (λ e. omega arith) }

but_only : (y : ℕ) (c : ℕ → ℤ) → IsBut y c (without 0 y c)
but_only y c = record { gone = without_second 0 y c; kept = λ k h ne. without_other 0 y c k (λ e. omega arith) ne }

-- ---- what the factor stands for
opposite_is : (p q : ℤ) (d : ℕ) → if_opposite p q ≡ Some d → (k : ℕ) × (p ≡ pos (suc k)) × (q ≡ negsuc k) × (d ≡ suc k)
opposite_is (pos zero) q d e = cc
opposite_is (negsuc m) q d e = cc
opposite_is (pos (suc m)) (pos j) d e = cc
opposite_is (pos (suc m)) (negsuc j) d e = by_equal (cases_Bool (eqb m j))
  where
    by_equal : (eqb m j ≡ true) ⊎ (eqb m j ≡ false) → (k : ℕ) × (pos (suc m) ≡ pos (suc k)) × (negsuc j ≡ negsuc k) × (d ≡ suc k)
    by_equal (inl same) = (m, refl, ap negsuc (sym (eqb-true m j same)), let f : Some (suc m) ≡ Some d = rw same at e in cc)
    by_equal (inr other) = let f : None ≡ Some d = rw other at e in cc

positive_is : (p : ℤ) (d : ℕ) → if_positive p ≡ Some d → (k : ℕ) × (p ≡ pos (suc k)) × (d ≡ suc k)
positive_is (pos zero) d e = cc
positive_is (negsuc m) d e = cc
positive_is (pos (suc m)) d e = (m, refl, cc)

negative_is : (p : ℤ) (d : ℕ) → if_negative p ≡ Some d → (k : ℕ) × (p ≡ negsuc k) × (d ≡ suc k)
negative_is (pos m) d e = cc
negative_is (negsuc m) d e = (m, refl, cc)

-- the form is the factor times the difference, and the rest; both places are terms of it
record IsFactor (c : ℕ → ℤ) (cells : ℕ → Option ℤ) (size i j d : ℕ) : Type 0 where
  positive : 0 < d
  sum : total c (worths cells) size ≡ total (without i j c) (worths cells) size +ℤ (pos d *ℤ (worths cells i -ℤ worths cells j))
  row : (i ≡ 0) ⊎ (c i ≢ pos 0)
  column : (j ≡ 0) ⊎ (c j ≢ pos 0)

by_zero_product : (k : ℕ) → (pos (suc k) *ℤ pos 0 ≡ pos 0) × (negsuc k *ℤ pos 0 ≡ pos 0)
by_zero_product k = (omega (arith, ints), omega (arith, ints))

nonzero_at : (x p : ℤ) → x ≡ p → p ≢ pos 0 → x ≢ pos 0
nonzero_at x p e ne f = ne (sym e ∙ f)

factor_is : (c : ℕ → ℤ) (cells : ℕ → Option ℤ) (size i j d : ℕ) → i ≤ size → j ≤ size → factor c i j ≡ Some d → IsFactor c cells size i j d
factor_is c cells size zero zero d h k e = cc
factor_is c cells size zero (suc j) d h k e = by_negative (negative_is (c (suc j)) d e)
  where
    by_negative : (m : ℕ) × (c (suc j) ≡ negsuc m) × (d ≡ suc m) → IsFactor c cells size zero (suc j) d
    by_negative (m, f, g) =
        let one = total_but (suc j) c (without 0 (suc j) c) (worths cells) size (but_only (suc j) c) (omega arith) k in
        let product : c (suc j) *ℤ worths cells (suc j) ≡ pos d *ℤ (pos 0 -ℤ worths cells (suc j)) = rw (f, g) (let o = opposite_products m (pos 0) (worths cells (suc j)) in let z = by_zero_product m in omega (arith, ints, o, z.0)) in
        record {
          positive = omega arith;
          sum = omega (arith, ints, one, product);
          row = inl refl;
          column = inr (nonzero_at (c (suc j)) (negsuc m) f (λ z. cc));
        }
factor_is c cells size (suc i) zero d h k e = by_positive (positive_is (c (suc i)) d e)
  where
    by_positive : (m : ℕ) × (c (suc i) ≡ pos (suc m)) × (d ≡ suc m) → IsFactor c cells size (suc i) zero d
    by_positive (m, f, g) =
        let one = total_but (suc i) c (without (suc i) 0 c) (worths cells) size (but_first (suc i) c) (omega arith) h in
        let product : c (suc i) *ℤ worths cells (suc i) ≡ pos d *ℤ (worths cells (suc i) -ℤ pos 0) = rw (f, g) (let o = opposite_products m (worths cells (suc i)) (pos 0) in let z = by_zero_product m in omega (arith, ints, o, z.1)) in
        record {
          positive = omega arith;
          sum = omega (arith, ints, one, product);
          row = inr (nonzero_at (c (suc i)) (pos (suc m)) f (λ z. omega (arith, ints)));
          column = inl refl;
        }
factor_is c cells size (suc i) (suc j) d h k e = by_opposite (opposite_is (c (suc i)) (c (suc j)) d e)
  where
    by_opposite : (m : ℕ) × (c (suc i) ≡ pos (suc m)) × (c (suc j) ≡ negsuc m) × (d ≡ suc m) → IsFactor c cells size (suc i) (suc j) d
    by_opposite (m, f, g, l) =
        let ne : (suc j ≡ suc i → ⊥) = λ (s : suc j ≡ suc i). let t : negsuc m ≡ pos (suc m) = sym g ∙ (ap c s ∙ f) in cc in
        let one = total_but (suc i) c (without (suc i) 0 c) (worths cells) size (but_first (suc i) c) (omega arith) h in
        let other = total_but (suc j) (without (suc i) 0 c) (without (suc i) (suc j) c) (worths cells) size (but_second (suc i) (suc j) c) (omega arith) k in
        let same : without (suc i) 0 c (suc j) *ℤ worths cells (suc j) ≡ c (suc j) *ℤ worths cells (suc j) = ap (λ (z : ℤ). z *ℤ worths cells (suc j)) (without_other (suc i) 0 c (suc j) ne (λ e. omega arith)) in
        let product : c (suc i) *ℤ worths cells (suc i) +ℤ c (suc j) *ℤ worths cells (suc j) ≡ pos d *ℤ (worths cells (suc i) -ℤ worths cells (suc j)) = rw (f, g, l) (opposite_products m (worths cells (suc i)) (worths cells (suc j))) in
        record {
          positive = omega arith;
          sum = omega (arith, ints, one, other, same, product);
          row = inr (nonzero_at (c (suc i)) (pos (suc m)) f (λ z. omega (arith, ints)));
          column = inr (nonzero_at (c (suc j)) (negsuc m) g (λ z. cc));
        }

-- ---- soundness
pub record IsDemanded (size : ℕ) (cells : ℕ → Option ℤ) (c : ℕ → ℤ) (low : ℤ) : Type 0 where
  pub operands : (j : ℕ) → 0 < j → j ≤ size → c j ≢ pos 0 → HasValue (cells j)
  pub holds : (total c (worths cells) size +ℤ low) ≤ℤ pos 0

value_of_term : (size : ℕ) (cells : ℕ → Option ℤ) (c : ℕ → ℤ) (low : ℤ) → IsDemanded size cells c low → (j : ℕ) → j ≤ size → (j ≡ 0) ⊎ (c j ≢ pos 0) → HasValue (value_at cells j)
value_of_term size cells c low is zero h e = tt
value_of_term size cells c low is (suc j) h (inl e) = absurd (omega arith)
value_of_term size cells c low is (suc j) h (inr ne) = is.operands (suc j) (omega arith) h ne

above_less : (t s : ℤ) (o : Option ℤ) → t ≤ℤ s → IsAbove s o → IsAbove t o
above_less t s (Some u) h k = omega (arith, ints, k)
above_less t s None h k = tt

demanded_above : (size : ℕ) (w : ℕ → ℕ → ℤ) (cells : ℕ → Option ℤ) (c : ℕ → ℤ) (low : ℤ) → StandsIn (size + 1) w cells → IsDemanded size cells c low → (i j : ℕ) → i ≤ size → j ≤ size → (o : Option ℕ) → factor c i j ≡ o → IsBound (word_of (demanded_by w c low size i j o)) → DifferBy (word_of (demanded_by w c low size i j o)) (value_at cells i) (value_at cells j)
demanded_above size w cells c low stands is i j h k None e b = absurd (omega (arith, ints))
demanded_above size w cells c low stands is i j h k (Some d) e b =
    let f : IsFactor c cells size i j d = factor_is c cells size i j d h k e in
    let sum = f.sum in
    let holds = is.holds in
    let minus = total_negated (without i j c) (worths cells) size in
    let rest = upper_above size w cells stands (negated (without i j c)) (neg_ℤ low) in
    let less : (pos d *ℤ (worths cells i -ℤ worths cells j)) ≤ℤ (total (negated (without i j c)) (worths cells) size +ℤ neg_ℤ low) = omega (arith, ints, sum, holds, minus) in
    let above = above_divided (worths cells i -ℤ worths cells j) (upper w (negated (without i j c)) (neg_ℤ low) size) d f.positive
    (above_less (pos d *ℤ (worths cells i -ℤ worths cells j)) (total (negated (without i j c)) (worths cells) size +ℤ neg_ℤ low) (upper w (negated (without i j c)) (neg_ℤ low) size) less rest) in
    differ_of (word_of (demanded_by w c low size i j (Some d))) (value_at cells i) (value_at cells j) (value_of_term size cells c low is i h f.row) (value_of_term size cells c low is j k f.column)
    (number_shown (worths cells i -ℤ worths cells j) (demanded_by w c low size i j (Some d)) b above)

lesser_word : (x y : ℤ) (p q : Option ℤ) → (IsBound x → DifferBy x p q) → (IsBound y → DifferBy y p q) → IsBound (int_min x y) → DifferBy (int_min x y) p q
lesser_word x y p q h k b = by_lt_z y x
    (λ (lt : y <ℤ x). let e : int_min x y ≡ y = omega (arith, ints, clamps) in rw e (k (omega (arith, ints))))
    (λ (le : x ≤ℤ y). let e : int_min x y ≡ x = omega (arith, ints, clamps) in rw e (h (omega (arith, ints))))

pub stands_lowered : (size : ℕ) (w : ℕ → ℕ → ℤ) (cells : ℕ → Option ℤ) (c : ℕ → ℤ) (low : ℤ) → StandsIn (size + 1) w cells → IsDemanded size cells c low → StandsIn (size + 1) (lowered w c low size) cells
stands_lowered size w cells c low stands is = record {
  bounded = λ i j h k ne b.
      lesser_word (w i j) (word_of (demanded w c low size i j)) (value_at cells i) (value_at cells j)
      (stands.bounded i j h k ne) (demanded_above size w cells c low stands is i j (omega arith) (omega arith) (factor c i j) refl) b;
}

-- ---- order
pub positive_factor : (c : ℕ → ℤ) (i j d : ℕ) → factor c i j ≡ Some d → 0 < d
positive_factor c zero zero d e = cc
positive_factor c zero (suc j) d e = let r = negative_is (c (suc j)) d e in omega (arith, r.2)
positive_factor c (suc i) zero d e = let r = positive_is (c (suc i)) d e in omega (arith, r.2)
positive_factor c (suc i) (suc j) d e = let r = opposite_is (c (suc i)) (c (suc j)) d e in omega (arith, r.3)

floor_small : (u : ℤ) (d : ℕ) → 0 < d → u <ℤ none → floor u d <ℤ none
floor_small u d h lt = by_lt_z (floor u d) none (λ (k : floor u d <ℤ none). k)
    (λ (le : none ≤ℤ floor u d). absurd (
    let parts = floor_parts u d h in
    let far : (pos d *ℤ none) ≤ℤ (pos d *ℤ floor u d) = times_monotone d none (floor u d) le in
    omega (arith, ints, parts.0, far, parts_of_product d none)))

divided_is : (o : Option ℤ) (d : ℕ) → 0 < d → IsNumber o → IsNumber (divided o d)
divided_is (Some u) d h k = floor_small u d h k
divided_is None d h k = tt

demanded_under : (size : ℕ) (w u : ℕ → ℕ → ℤ) → AreLower (size + 1) w u → (c : ℕ → ℤ) (low less : ℤ) → less ≤ℤ low → (i j : ℕ) (o : Option ℕ) → factor c i j ≡ o → word_of (demanded_by w c low size i j o) ≤ℤ word_of (demanded_by u c less size i j o)
demanded_under size w u lower c low less h i j None e = omega (arith, ints)
demanded_under size w u lower c low less h i j (Some d) e =
    let d_positive : 0 < d = positive_factor c i j d e in
    word_under (divided (upper w (negated (without i j c)) (neg_ℤ low) size) d) (divided (upper u (negated (without i j c)) (neg_ℤ less) size) d)
    (divided_is (upper w (negated (without i j c)) (neg_ℤ low) size) d d_positive (upper_is w (negated (without i j c)) (neg_ℤ low) size))
    (under_divided (upper w (negated (without i j c)) (neg_ℤ low) size) (upper u (negated (without i j c)) (neg_ℤ less) size) d d_positive
    (upper_under size w u lower (negated (without i j c)) (neg_ℤ low) (neg_ℤ less) (omega (arith, ints))))

pub lowered_lower : (size : ℕ) (w u : ℕ → ℕ → ℤ) → AreLower (size + 1) w u → (c : ℕ → ℤ) (low less : ℤ) → less ≤ℤ low → AreLower (size + 1) (lowered w c low size) (lowered u c less size)
lowered_lower size w u lower c low less h = record {
  words = λ i j k g.
      let one = lower.words i j k g in
      let other : word_of (demanded w c low size i j) ≤ℤ word_of (demanded u c less size i j) = demanded_under size w u lower c low less h i j (factor c i j) refl in
      omega (arith, ints, clamps, one, other);
}

-- ---- forms
pub stands_demanded : (size : ℕ) (w u : ℕ → ℕ → ℤ) (cells : ℕ → Option ℤ) (form : Lin) → size ≤ 8 → IsOver size form → StandsIn (size + 1) w cells → IsMet size cells form → AreDemanded size w form u → StandsIn (size + 1) u cells
stands_demanded size w u cells form few over stands met are =
    let sum = total_of_form size form cells few over in
    let holds = met.holds in
    let below = stands_lowered size w cells (coef_at form.coefs) form.constant.low stands (record { operands = met.operands.values; holds = omega (arith, ints, sum, holds) }) in
    record {
      bounded = λ i j h k ne b.
          let same = are.words i j (omega arith) (omega arith) in
          subst (λ (x : ℤ). DifferBy x (value_at cells i) (value_at cells j)) (sym same) (below.bounded i j h k ne (subst (λ (x : ℤ). IsBound x) same b));
    }

pub demanded_lower : (size : ℕ) (w u a b : ℕ → ℕ → ℤ) (f g : Lin) → AreLower (size + 1) w u → f.coefs ≡ g.coefs → g.constant.low ≤ℤ f.constant.low → AreDemanded size w f a → AreDemanded size u g b → (i j : ℕ) → i ≤ size → j ≤ size → a i j ≤ℤ b i j
demanded_lower size w u a b f g lower e h one other i j l m =
    let p : a i j ≡ lowered w (coef_at g.coefs) f.constant.low size i j = one.words i j l m ∙ ap (λ (coefs : List ℤ). lowered w (coef_at coefs) f.constant.low size i j) e in
    let q = other.words i j l m in
    let less = (lowered_lower size w u lower (coef_at g.coefs) f.constant.low g.constant.low h).words i j (omega arith) (omega arith) in
    omega (arith, ints, p, q, less)

-- ---- the factor by the code
pub factor_column : (c : ℕ → ℤ) (j : ℕ) → 0 < j → factor c 0 j ≡ if_negative (c j)
factor_column c zero h = absurd (omega arith)
factor_column c (suc j) h = refl

pub factor_row : (c : ℕ → ℤ) (i : ℕ) → 0 < i → factor c i 0 ≡ if_positive (c i)
factor_row c zero h = absurd (omega arith)
factor_row c (suc i) h = refl

pub factor_pair : (c : ℕ → ℤ) (i j : ℕ) → 0 < i → 0 < j → factor c i j ≡ if_opposite (c i) (c j)
factor_pair c zero j h k = absurd (omega arith)
factor_pair c (suc i) zero h k = absurd (omega arith)
factor_pair c (suc i) (suc j) h k = refl

pub negative_is_positive : (x y : ℤ) → y ≡ neg_ℤ x → if_positive y ≡ if_negative x
negative_is_positive (pos zero) y e = rw e refl
negative_is_positive (pos (suc k)) y e = rw e refl
negative_is_positive (negsuc k) y e = rw e refl

pub not_positive : (x : ℤ) → x ≤ℤ pos 0 → if_positive x ≡ None
not_positive (pos zero) h = refl
not_positive (pos (suc k)) h = absurd (omega (arith, ints))
not_positive (negsuc k) h = refl

pub opposite_sum : (x y : ℤ) → x +ℤ y ≡ pos 0 → if_positive x ≡ if_opposite x y
opposite_sum (pos zero) y e = refl
opposite_sum (negsuc k) y e = refl
opposite_sum (pos (suc k)) (pos j) e = absurd (omega (arith, ints))
opposite_sum (pos (suc k)) (negsuc j) e = let same : k ≡ j = omega (arith, ints) in rw (eq-eqb k j same) refl

pub not_opposite : (x y : ℤ) → (x +ℤ y ≡ pos 0 → ⊥) → if_opposite x y ≡ None
not_opposite (pos zero) y ne = refl
not_opposite (negsuc k) y ne = refl
not_opposite (pos (suc k)) (pos j) ne = refl
not_opposite (pos (suc k)) (negsuc j) ne = rw (ne_eqb k j (λ e. ne (omega (arith, ints)))) refl

pub positive_factor_is : (d : ℤ) → pos 1 ≤ℤ d → if_positive d ≡ Some (unsigned_abs d)
positive_factor_is (pos zero) h = absurd (omega (arith, ints))
positive_factor_is (pos (suc k)) h = refl
positive_factor_is (negsuc k) h = absurd (omega (arith, ints))
