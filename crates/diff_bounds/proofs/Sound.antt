-- Each bound that a matrix shows of a form is one for the values that stand in it.
use Rattle.std.proofs.Common.{◌≡◌, ◌≢◌, ℕ, zero, suc, ◌+◌, ◌<◌, ◌≤◌, Bool, true, false, cond, eqb, leb, ℤ, pos, negsuc, neg_ℤ, ◌+ℤ◌, ◌-ℤ◌, ◌*ℤ◌, ◌≤ℤ◌, ◌<ℤ◌, Option, Some, None, ◌⊎◌, inl, inr, refl, sym, ap, subst, ◌∙◌, arith}
use Rattle.std.specs.Prelude.{nat_eq}
use Rattle.std.proofs.lemmas.Int.{ints, clamps, by_lt_z}
use Rattle.std.proofs.lemmas.Bool.{cases_eq, cases_lt, eq-eqb, ne_eqb, eqb-true, le-leb, lt-leb, cases_Bool}
use Rattle.diff_bounds.specs.Forms.{dot}
use Rattle.diff_bounds.specs.Matrix.{none, largest, IsBound}
use Rattle.diff_bounds.specs.Paths.{cut_of}
use Rattle.diff_bounds.specs.Storages.{value_at, DifferBy, StandsIn}
use Rattle.diff_bounds.specs.Numbers.{number_of, added, lesser, cut, times, IsAbove}
use Rattle.diff_bounds.specs.Upper.{term, terms, without, by_zero, by_pair, least_to, upper}
use Rattle.diff_bounds.specs.Values.{worth, total, worths}
use Rattle.diff_bounds.proofs.Numbers.{opposite_products, above_number, above_added, above_lesser, above_cut, above_times}

-- ---- one word
differ_above : (c : ℤ) (x y : Option ℤ) → DifferBy c x y → (worth x -ℤ worth y) ≤ℤ c
differ_above c (Some x) (Some y) h = h
differ_above c (Some x) None h = absurd h
differ_above c None y h = absurd h

word_above : (n : ℕ) (w : ℕ → ℕ → ℤ) (cells : ℕ → Option ℤ) → StandsIn n w cells → (i j : ℕ) → i < n → j < n → i ≢ j → IsAbove (worths cells i -ℤ worths cells j) (number_of (w i j))
word_above n w cells stands i j h k ne =
    above_number (worths cells i -ℤ worths cells j) (w i j) (λ b. differ_above (w i j) (value_at cells i) (value_at cells j) (stands.bounded i j h k ne b))

pub along : (t s : ℤ) (o : Option ℤ) → t ≡ s → IsAbove t o → IsAbove s o
along t s o e h = subst (λ (z : ℤ). IsAbove z o) e h

minus_times : (k : ℕ) (v : ℤ) → pos (suc k) *ℤ neg_ℤ v ≡ negsuc k *ℤ v
minus_times k (pos zero) = omega (arith, ints)
minus_times k (pos (suc a)) = omega (arith, ints)
minus_times k (negsuc a) = omega (arith, ints)

over_zero : (n : ℕ) (w : ℕ → ℕ → ℤ) (cells : ℕ → Option ℤ) → StandsIn n w cells → (place : ℕ) → 0 < place → place < n → IsAbove (worths cells place) (number_of (w place 0))
over_zero n w cells stands place h k =
    along _ _ (number_of (w place 0)) (omega (arith, ints)) (word_above n w cells stands place 0 k (omega arith) (λ e. omega arith))

under_zero : (n : ℕ) (w : ℕ → ℕ → ℤ) (cells : ℕ → Option ℤ) → StandsIn n w cells → (place : ℕ) → 0 < place → place < n → IsAbove (neg_ℤ (worths cells place)) (number_of (w 0 place))
under_zero n w cells stands place h k =
    along _ _ (number_of (w 0 place)) (omega (arith, ints)) (word_above n w cells stands 0 place (omega arith) k (λ e. omega arith))

pub term_above : (n : ℕ) (w : ℕ → ℕ → ℤ) (cells : ℕ → Option ℤ) → StandsIn n w cells → (place : ℕ) → 0 < place → place < n → (c : ℤ) → IsAbove (c *ℤ worths cells place) (term w place c)
term_above n w cells stands place h k (pos zero) = omega (arith, ints)
term_above n w cells stands place h k (pos (suc m)) =
    above_times (suc m) (worths cells place) (number_of (w place 0)) (over_zero n w cells stands place h k)
term_above n w cells stands place h k (negsuc m) =
    along _ _ (times (suc m) (number_of (w 0 place))) (minus_times m (worths cells place))
    (above_times (suc m) (neg_ℤ (worths cells place)) (number_of (w 0 place)) (under_zero n w cells stands place h k))

pub terms_above : (size : ℕ) (w : ℕ → ℕ → ℤ) (cells : ℕ → Option ℤ) → StandsIn (size + 1) w cells → (c : ℕ → ℤ) (n : ℕ) → n ≤ size → IsAbove (total c (worths cells) n) (terms w c n)
unfolding dot
terms_above size w cells stands c zero h = omega (arith, ints)
terms_above size w cells stands c (suc n) h =
    above_added (total c (worths cells) n) (c (suc n) *ℤ worths cells (suc n)) (terms w c n) (term w (suc n) (c (suc n)))
    (terms_above size w cells stands c n (omega arith)) (term_above (size + 1) w cells stands (suc n) (omega arith) (omega arith) (c (suc n)))

-- ---- a form without two of its terms
without_at : (x y : ℕ) (c : ℕ → ℤ) (k : ℕ) → (k ≡ x) ⊎ (k ≡ y) → without x y c k ≡ pos 0
without_at x y c k (inl e) = rw (eq-eqb k x e) refl
without_at x y c k (inr e) = by_bool (eqb k x)
  where
    by_bool : (b : Bool) → cond b (pos 0) (cond (eqb k y) (pos 0) (c k)) ≡ pos 0
    by_bool true = refl
    by_bool false = rw (eq-eqb k y e) refl

pub without_other : (x y : ℕ) (c : ℕ → ℤ) (k : ℕ) → (k ≡ x → ⊥) → (k ≡ y → ⊥) → without x y c k ≡ c k
without_other x y c k ne apart_ = rw (ne_eqb k x ne, ne_eqb k y apart_) refl

-- what a place adds to the sum of the places up to n
abbrev upto : ℕ → ℕ → ℤ → ℤ
upto x n z = cond (leb x n) z (pos 0)

upto_within : (x n : ℕ) (z : ℤ) → x ≤ n → upto x n z ≡ z
upto_within x n z h = rw (le-leb x n h) refl

upto_beyond : (x n : ℕ) (z : ℤ) → n < x → upto x n z ≡ pos 0
upto_beyond x n z h = rw (lt-leb x n h) refl

upto_same : (x n : ℕ) (z : ℤ) → (suc n ≡ x → ⊥) → upto x (suc n) z ≡ upto x n z
upto_same x n z ne = elim (cases_lt n x) as (λ _. upto x (suc n) z ≡ upto x n z) [
  | inl lt ↦ upto_beyond x (suc n) z (omega arith) ∙ sym (upto_beyond x n z lt)
  | inr le ↦ upto_within x (suc n) z (omega arith) ∙ sym (upto_within x n z le)
]

total_split : (c v : ℕ → ℤ) (x y n : ℕ) → 0 < x → 0 < y → x ≢ y → total c v n ≡ (total (without x y c) v n +ℤ upto x n (c x *ℤ v x)) +ℤ upto y n (c y *ℤ v y)
unfolding dot
total_split c v x y zero h k ne =
    let e : upto x 0 (c x *ℤ v x) ≡ pos 0 = upto_beyond x 0 (c x *ℤ v x) h in
    let f : upto y 0 (c y *ℤ v y) ≡ pos 0 = upto_beyond y 0 (c y *ℤ v y) k in
    omega (arith, ints)
total_split c v x y (suc n) h k ne = by_places (total_split c v x y n h k ne) (cases_eq (suc n) x) (cases_eq (suc n) y)
  where
    nothing : (z : ℤ) → z ≡ pos 0 → z *ℤ v (suc n) ≡ pos 0
    nothing z e = rw e (omega (arith, ints))

    by_places : total c v n ≡ (total (without x y c) v n +ℤ upto x n (c x *ℤ v x)) +ℤ upto y n (c y *ℤ v y) → (suc n ≡ x) ⊎ (suc n ≡ x → ⊥) → (suc n ≡ y) ⊎ (suc n ≡ y → ⊥) → total c v (suc n) ≡ (total (without x y c) v (suc n) +ℤ upto x (suc n) (c x *ℤ v x)) +ℤ upto y (suc n) (c y *ℤ v y)
    by_places before (inl e) (inl f) = absurd (ne (sym e ∙ f))
    by_places before (inl e) (inr apart_) =
        let gone : without x y c (suc n) *ℤ v (suc n) ≡ pos 0 = nothing (without x y c (suc n)) (without_at x y c (suc n) (inl e)) in
        let now : upto x (suc n) (c x *ℤ v x) ≡ c x *ℤ v x = upto_within x (suc n) (c x *ℤ v x) (omega arith) in
        let then_ : upto x n (c x *ℤ v x) ≡ pos 0 = upto_beyond x n (c x *ℤ v x) (omega arith) in
        let other : upto y (suc n) (c y *ℤ v y) ≡ upto y n (c y *ℤ v y) = upto_same y n (c y *ℤ v y) apart_ in
        let here : c (suc n) *ℤ v (suc n) ≡ c x *ℤ v x = ap (λ (i : ℕ). c i *ℤ v i) e in
        omega (arith, ints, before)
    by_places before (inr apart_) (inl f) =
        let gone : without x y c (suc n) *ℤ v (suc n) ≡ pos 0 = nothing (without x y c (suc n)) (without_at x y c (suc n) (inr f)) in
        let now : upto y (suc n) (c y *ℤ v y) ≡ c y *ℤ v y = upto_within y (suc n) (c y *ℤ v y) (omega arith) in
        let then_ : upto y n (c y *ℤ v y) ≡ pos 0 = upto_beyond y n (c y *ℤ v y) (omega arith) in
        let other : upto x (suc n) (c x *ℤ v x) ≡ upto x n (c x *ℤ v x) = upto_same x n (c x *ℤ v x) apart_ in
        let here : c (suc n) *ℤ v (suc n) ≡ c y *ℤ v y = ap (λ (i : ℕ). c i *ℤ v i) f in
        omega (arith, ints, before)
    by_places before (inr apart_) (inr neither) =
        let kept : without x y c (suc n) *ℤ v (suc n) ≡ c (suc n) *ℤ v (suc n) = ap (λ (z : ℤ). z *ℤ v (suc n)) (without_other x y c (suc n) apart_ neither) in
        let one : upto x (suc n) (c x *ℤ v x) ≡ upto x n (c x *ℤ v x) = upto_same x n (c x *ℤ v x) apart_ in
        let other : upto y (suc n) (c y *ℤ v y) ≡ upto y n (c y *ℤ v y) = upto_same y n (c y *ℤ v y) neither in
        omega (arith, ints, before)

pub total_of_pair : (c v : ℕ → ℤ) (x y n : ℕ) → 0 < x → 0 < y → x ≢ y → x ≤ n → y ≤ n → total c v n ≡ total (without x y c) v n +ℤ (c x *ℤ v x +ℤ c y *ℤ v y)
total_of_pair c v x y n h k ne le less =
    let split = total_split c v x y n h k ne in
    let e : upto x n (c x *ℤ v x) ≡ c x *ℤ v x = upto_within x n (c x *ℤ v x) le in
    let f : upto y n (c y *ℤ v y) ≡ c y *ℤ v y = upto_within y n (c y *ℤ v y) less in
    omega (arith, ints, split)

-- ---- the least of all bounds
pub differ_of_signs : (c : ℕ → ℤ) (x y k j : ℕ) → c x ≡ pos (suc k) → c y ≡ negsuc j → x ≢ y
differ_of_signs c x y k j e f same = let g : pos (suc k) ≡ negsuc j = sym e ∙ (ap c same ∙ f) in cc

pub pair_above : (size : ℕ) (w : ℕ → ℕ → ℤ) (cells : ℕ → Option ℤ) → StandsIn (size + 1) w cells → (c : ℕ → ℤ) (high : ℤ) (x y : ℕ) → 0 < x → x ≤ size → 0 < y → y ≤ size → (p q : ℤ) → c x ≡ p → c y ≡ q → IsAbove (total c (worths cells) size +ℤ high) (by_pair w c high size x y p q)
pair_above size w cells stands c high x y h k g l (pos zero) q e f = tt
pair_above size w cells stands c high x y h k g l (negsuc m) q e f = tt
pair_above size w cells stands c high x y h k g l (pos (suc m)) (pos j) e f = tt
pair_above size w cells stands c high x y h k g l (pos (suc m)) (negsuc j) e f = by_equal (cases_Bool (eqb m j))
  where
    ne : x ≢ y
    ne = differ_of_signs c x y m j e f

    above : eqb m j ≡ true → IsAbove (total c (worths cells) size +ℤ high) (cut (added (times (suc m) (number_of (w x y))) (added (terms w (without x y c) size) (Some high))))
    above same =
        let first : IsAbove (pos (suc m) *ℤ (worths cells x -ℤ worths cells y)) (times (suc m) (number_of (w x y))) = above_times (suc m) (worths cells x -ℤ worths cells y) (number_of (w x y)) (word_above (size + 1) w cells stands x y (omega arith) (omega arith) ne) in
        let rest : IsAbove (total (without x y c) (worths cells) size +ℤ high) (added (terms w (without x y c) size) (Some high)) = above_added (total (without x y c) (worths cells) size) high (terms w (without x y c) size) (Some high) (terms_above size w cells stands (without x y c) size (omega arith)) (omega (arith, ints)) in
        let both = above_added (pos (suc m) *ℤ (worths cells x -ℤ worths cells y)) (total (without x y c) (worths cells) size +ℤ high) (times (suc m) (number_of (w x y))) (added (terms w (without x y c) size) (Some high)) first rest in
        let opposite : c x *ℤ worths cells x +ℤ c y *ℤ worths cells y ≡ pos (suc m) *ℤ (worths cells x -ℤ worths cells y) = rw (e, f, sym (eqb-true m j same)) (opposite_products m (worths cells x) (worths cells y)) in
        let sum = total_of_pair c (worths cells) x y size h g ne k l in
        along _ _ (cut (added (times (suc m) (number_of (w x y))) (added (terms w (without x y c) size) (Some high))))
        (let same_sum : pos (suc m) *ℤ (worths cells x -ℤ worths cells y) +ℤ (total (without x y c) (worths cells) size +ℤ high) ≡ total c (worths cells) size +ℤ high = omega (arith, ints, sum, opposite) in same_sum)
        (above_cut (pos (suc m) *ℤ (worths cells x -ℤ worths cells y) +ℤ (total (without x y c) (worths cells) size +ℤ high)) (added (times (suc m) (number_of (w x y))) (added (terms w (without x y c) size) (Some high))) both)

    by_equal : (eqb m j ≡ true) ⊎ (eqb m j ≡ false) → IsAbove (total c (worths cells) size +ℤ high) (by_pair w c high size x y (pos (suc m)) (negsuc j))
    by_equal (inl same) = rw same (above same)
    by_equal (inr other) = rw other tt

pub least_above : (n : ℕ) (f : ℕ → Option ℤ) (t : ℤ) → ((k : ℕ) → 0 < k → k ≤ n → IsAbove t (f k)) → IsAbove t (least_to n f)
least_above zero f t h = tt
least_above (suc n) f t h = above_lesser t (least_to n f) (f (suc n)) (least_above n f t (λ k g l. h k g (omega arith))) (h (suc n) (omega arith) (omega arith))

pub upper_above : (size : ℕ) (w : ℕ → ℕ → ℤ) (cells : ℕ → Option ℤ) → StandsIn (size + 1) w cells → (c : ℕ → ℤ) (high : ℤ) → IsAbove (total c (worths cells) size +ℤ high) (upper w c high size)
upper_above size w cells stands c high =
    let t = total c (worths cells) size +ℤ high in
    above_lesser t (by_zero w c high size) (least_to size (λ x. least_to size (λ y. by_pair w c high size x y (c x) (c y))))
    (above_cut t (added (terms w c size) (Some high)) (above_added (total c (worths cells) size) high (terms w c size) (Some high) (terms_above size w cells stands c size (omega arith)) (omega (arith, ints))))
    (least_above size (λ x. least_to size (λ y. by_pair w c high size x y (c x) (c y))) t (λ x h k.
    least_above size (λ y. by_pair w c high size x y (c x) (c y)) t (λ y g l. pair_above size w cells stands c high x y h k g l (c x) (c y) refl refl)))
