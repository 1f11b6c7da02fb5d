-- The closing of a lower matrix is lower, or nothing. It is a matrix where the diagonal was one of zeros.
use Rattle.std.proofs.Common.{◌≡◌, ℕ, zero, suc, ◌+◌, ◌*◌, ◌/◌, ◌%◌, ◌<◌, ◌≤◌, Bool, true, false, List, length, ℤ, pos, ◌+ℤ◌, ◌≤ℤ◌, ◌<ℤ◌, Option, Some, None, inl, inr, refl, sym, subst, ◌∙◌, arith}
use Rattle.std.specs.Prelude.{int_lt, int_le, if◌then◌else◌, ◌&&◌, IfSome}
use Rattle.std.specs.Int.{int_min}
use Rattle.std.proofs.lemmas.Int.{ints, clamps, by_lt_z}
use Rattle.std.proofs.lemmas.Bool.{cases_eq, and_parts, false≢true}
use Rattle.std.proofs.lemmas.List.FromFn.{get_or-map-range_with_len, length-map-range_with_len}
use Rattle.diff_bounds.specs.Matrix.{word, none, IsWord, IsMatrix}
use Rattle.diff_bounds.specs.Paths.{cut_of}
use Rattle.diff_bounds.specs.Sums.{no_path}
use Rattle.diff_bounds.proofs.Steps.{cut_is_word}
use Rattle.diff_bounds.specs.Closed.{opened, lesser, through, is_tame, if_tame, sums_further, sums_through, cut_sums, closed}
use Rattle.diff_bounds.specs.Values.{AreLower}
use Rattle.diff_bounds.proofs.Numbers.{cut_monotone, lt_true}
use Rattle.diff_steps.specs.Matrices.{with_words}
use Rattle.pack_laws.proofs.Words.{word_at}

-- ---- words as sums
le_false : (x y : ℤ) → y ≤ℤ x → int_lt x y ≡ false
le_false x y h = grind (arith, ints)

opened_at : (x : ℤ) → x <ℤ none → opened x ≡ x
opened_at x h = rw (lt_true x none h) refl

opened_beyond : (x : ℤ) → none ≤ℤ x → opened x ≡ no_path
opened_beyond x h = rw (le_false x none h) refl

none_before : none ≤ℤ no_path
none_before = omega (arith, ints)

pub order_along : (x y p q : ℤ) → p ≡ x → q ≡ y → x ≤ℤ y → p ≤ℤ q
order_along x y p q e f h = omega (arith, ints, e, f, h)

opened_rises : (x y : ℤ) → x ≤ℤ y → opened x ≤ℤ opened y
opened_rises x y h = by_lt_z y none below (λ (le : none ≤ℤ y). by_lt_z x none (open_below le) (λ (more : none ≤ℤ x). order_along no_path no_path (opened x) (opened y) (opened_beyond x more) (opened_beyond y le) (omega (arith, ints))))
  where
    below : y <ℤ none → opened x ≤ℤ opened y
    below lt = order_along x y (opened x) (opened y) (opened_at x (omega (arith, ints, h, lt))) (opened_at y lt) h

    open_below : none ≤ℤ y → x <ℤ none → opened x ≤ℤ opened y
    open_below le lt = let n = none_before in order_along x no_path (opened x) (opened y) (opened_at x lt) (opened_beyond y le) (omega (arith, ints, n, lt))

-- ---- one step
abbrev chosen : Bool → Bool → ℤ → ℤ → ℤ
chosen p q best sum = if p then (if q then int_min best sum else best) else best

best_above : (p q : Bool) (best sum : ℤ) → chosen p q best sum ≤ℤ best
best_above true true best sum = omega (arith, ints, clamps)
best_above true false best sum = omega (arith, ints)
best_above false q best sum = omega (arith, ints)

pub through_both : (x y z : ℤ) → x ≤ℤ y → y ≤ℤ z → x ≤ℤ z
through_both x y z h k = omega (arith, ints, h, k)

chosen_rises : (p q r u : Bool) (b s c t : ℤ) → (r ≡ true → p ≡ true) → (u ≡ true → q ≡ true) → b ≤ℤ c → s ≤ℤ t → chosen p q b s ≤ℤ chosen r u c t
chosen_rises p q false u b s c t h k l m = through_both (chosen p q b s) b c (best_above p q b s) l
chosen_rises p q true false b s c t h k l m = through_both (chosen p q b s) b c (best_above p q b s) l
chosen_rises true true true true b s c t h k l m = omega (arith, ints, clamps, l, m)
chosen_rises false q true true b s c t h k l m = absurd (false≢true (h refl))
chosen_rises true false true true b s c t h k l m = absurd (false≢true (k refl))

lt_falls : (x y z : ℤ) → x ≤ℤ y → int_lt y z ≡ true → int_lt x z ≡ true
lt_falls x y z h e = grind (arith, ints)

lesser_rises : (b f s c g t : ℤ) → b ≤ℤ c → f ≤ℤ g → s ≤ℤ t → lesser b f s ≤ℤ lesser c g t
lesser_rises b f s c g t h k l =
    chosen_rises (int_lt f no_path) (int_lt s no_path) (int_lt g no_path) (int_lt t no_path) b (f +ℤ s) c (g +ℤ t)
    (lt_falls f g no_path k) (lt_falls s t no_path l) h (omega (arith, ints, k, l))

through_rises : (n via : ℕ) (a b : ℕ → ℕ → ℤ) → via < n → AreLower n a b → AreLower n (through via a) (through via b)
through_rises n via a b within lower = record {
  words = λ i j h g. lesser_rises (a i j) (a i via) (a via j) (b i j) (b i via) (b via j) (lower.words i j h g) (lower.words i via h within) (lower.words via j within g);
}

-- ---- the diagonal
test_rises : (x y : ℤ) → x ≤ℤ y → int_le (pos 0) x ≡ true → int_le (pos 0) y ≡ true
test_rises x y h e = grind (arith, ints)

both_rise : (p q r s : Bool) → (p ≡ true → r ≡ true) → (q ≡ true → s ≡ true) → (p && q) ≡ true → (r && s) ≡ true
both_rise false q r s h k e = absurd (false≢true e)
both_rise true q true s h k e = k e
both_rise true q false s h k e = absurd (false≢true (h refl))

tame_rises : (a b : ℕ → ℕ → ℤ) (n : ℕ) → ((i : ℕ) → i < n → a i i ≤ℤ b i i) → is_tame a n ≡ true → is_tame b n ≡ true
tame_rises a b zero h e = refl
tame_rises a b (suc n) h e =
    both_rise (int_le (pos 0) (a n n)) (is_tame a n) (int_le (pos 0) (b n n)) (is_tame b n)
    (test_rises (a n n) (b n n) (h n (omega arith))) (tame_rises a b n (λ i lt. h i (omega arith))) e

tame_at : (a : ℕ → ℕ → ℤ) (n : ℕ) → is_tame a n ≡ true → (i : ℕ) → i < n → pos 0 ≤ℤ a i i
tame_at a zero e i h = absurd (omega arith)
tame_at a (suc n) e i h =
    let parts = and_parts (int_le (pos 0) (a n n)) (is_tame a n) e in
    elim (cases_eq i n) as (λ _. pos 0 ≤ℤ a i i) [
      | inl same ↦ subst (λ (k : ℕ). pos 0 ≤ℤ a k k) (sym same) (le_of (a n n) parts.0)
      | inr ne ↦ tame_at a n parts.1 i (omega arith)
    ]
  where
    le_of : (z : ℤ) → int_le (pos 0) z ≡ true → pos 0 ≤ℤ z
    le_of z f = grind (arith, ints)

-- ---- all steps
module _ (n : ℕ) where
  abbrev LowerIf : Option (ℕ → ℕ → ℤ) → Option (ℕ → ℕ → ℤ) → Type 0
  LowerIf None q = Unit {0}
  LowerIf (Some a) None = ⊥
  LowerIf (Some a) (Some b) = AreLower n a b

  tamed_rises : (a b : ℕ → ℕ → ℤ) → AreLower n a b → LowerIf (if_tame n a) (if_tame n b)
  tamed_rises a b lower = go (is_tame a n) (is_tame b n) (tame_rises a b n (λ i h. lower.words i i h h))
    where
      go : (p q : Bool) → (p ≡ true → q ≡ true) → LowerIf (if p then Some a else None) (if q then Some b else None)
      go false q h = tt
      go true true h = lower
      go true false h = absurd (false≢true (h refl))

  further_rises : (via : ℕ) (o q : Option (ℕ → ℕ → ℤ)) → via < n → LowerIf o q → LowerIf (sums_further n via o) (sums_further n via q)
  further_rises via None q within h = tt
  further_rises via (Some a) None within h = absurd h
  further_rises via (Some a) (Some b) within h = tamed_rises (through via a) (through via b) (through_rises n via a b within h)

  sums_rise : (w u : ℕ → ℕ → ℤ) → AreLower n w u → (k : ℕ) → k ≤ n → LowerIf (sums_through n k w) (sums_through n k u)
  unfolding sums_through
  sums_rise w u lower zero within = record { words = λ i j h g. opened_rises (w i j) (u i j) (lower.words i j h g) }
  sums_rise w u lower (suc k) within = further_rises k (sums_through n k w) (sums_through n k u) (omega arith) (sums_rise w u lower k (omega arith))

  -- ---- sums from a place to itself
  abbrev NoneAbove : Option (ℕ → ℕ → ℤ) → Type 0
  NoneAbove o = IfSome o (λ a. (i : ℕ) → i < n → a i i ≤ℤ pos 0)

  abbrev AllZero : Option (ℕ → ℕ → ℤ) → Type 0
  AllZero o = IfSome o (λ a. (i : ℕ) → i < n → a i i ≡ pos 0)

  tamed_zero : (a : ℕ → ℕ → ℤ) → ((i : ℕ) → i < n → a i i ≤ℤ pos 0) → AllZero (if_tame n a)
  tamed_zero a low = go (is_tame a n) refl
    where
      go : (p : Bool) → is_tame a n ≡ p → AllZero (if p then Some a else None)
      go true e = λ i h. let most = low i h in let least = tame_at a n e i h in omega (arith, ints, most, least)
      go false e = tt

  through_low : (via : ℕ) (a : ℕ → ℕ → ℤ) → ((i : ℕ) → i < n → a i i ≤ℤ pos 0) → (i : ℕ) → i < n → through via a i i ≤ℤ pos 0
  through_low via a low i h = through_both (through via a i i) (a i i) (pos 0) (best_above (int_lt (a i via) no_path) (int_lt (a via i) no_path) (a i i) (a i via +ℤ a via i)) (low i h)

  further_zero : (via : ℕ) (o : Option (ℕ → ℕ → ℤ)) → NoneAbove o → AllZero (sums_further n via o)
  further_zero via None low = tt
  further_zero via (Some a) low = tamed_zero (through via a) (through_low via a low)

  not_above : (o : Option (ℕ → ℕ → ℤ)) → AllZero o → NoneAbove o
  not_above None h = tt
  not_above (Some a) h = λ i lt. let e = h i lt in omega (arith, ints, e)

  module _ (w : ℕ → ℕ → ℤ) (flat : (i : ℕ) → i < n → w i i ≡ pos 0) where
    first_zero : AllZero (sums_through n zero w)
    unfolding sums_through
    first_zero = λ i h. let e = flat i h in opened_at (w i i) (below (w i i) e) ∙ e
      where
        below : (x : ℤ) → x ≡ pos 0 → x <ℤ none
        below x e = omega (arith, ints, e)

    sums_zero : (k : ℕ) → AllZero (sums_through n k w)
    unfolding sums_through
    sums_zero zero = first_zero
    sums_zero (suc k) = further_zero k (sums_through n k w) (not_above (sums_through n k w) (sums_zero k))

-- ---- matrices
-- nothing lies below all
abbrev pub LowerIfAny : ℕ → Option (List ℤ) → Option (List ℤ) → Type 0
LowerIfAny size None q = Unit {0}
LowerIfAny size (Some a) None = ⊥
LowerIfAny size (Some a) (Some b) = AreLower (size + 1) (word (size + 1) a) (word (size + 1) b)

-- words by row and column that are numbers or none, and 0 on the diagonal
pub words_are_matrix : (size : ℕ) (w : ℕ → ℕ → ℤ) → ((i j : ℕ) → IsWord (w i j)) → ((i : ℕ) → i < size + 1 → w i i ≡ pos 0) → IsMatrix size (with_words size w)
words_are_matrix size w are flat = record {
  width = width;
  words = λ k h. subst (λ (x : ℤ). IsWord x) (sym (get_or-map-range_with_len (λ k. w (k / (size + 1)) (k % (size + 1))) 0 ((size + 1) * (size + 1)) k k (pos 0) (omega (arith, width)) (omega arith))) (are (k / (size + 1)) (k % (size + 1)));
  diagonal = λ i h. word_at size w i i h h ∙ flat i h;
}
  where
    width : length (with_words size w) ≡ (size + 1) * (size + 1)
    width = length-map-range_with_len (λ k. w (k / (size + 1)) (k % (size + 1))) 0 ((size + 1) * (size + 1))

module _ (size : ℕ) where
  cut_rises : (o q : Option (ℕ → ℕ → ℤ)) → LowerIf (size + 1) o q → LowerIfAny size (cut_sums size o) (cut_sums size q)
  cut_rises None q h = tt
  cut_rises (Some a) None h = absurd h
  cut_rises (Some a) (Some b) h = record {
    words = λ i j l g. order_along (cut_of (a i j)) (cut_of (b i j)) _ _ (word_at size (λ i j. cut_of (a i j)) i j l g) (word_at size (λ i j. cut_of (b i j)) i j l g) (cut_monotone (a i j) (b i j) (h.words i j l g));
  }

  pub closed_rises : (m t : List ℤ) → AreLower (size + 1) (word (size + 1) m) (word (size + 1) t) → LowerIfAny size (closed size m) (closed size t)
  closed_rises m t lower =
      cut_rises (sums_through (size + 1) (size + 1) (word (size + 1) m)) (sums_through (size + 1) (size + 1) (word (size + 1) t))
      (sums_rise (size + 1) (word (size + 1) m) (word (size + 1) t) lower (size + 1) (omega arith))

  cut_fits : (o : Option (ℕ → ℕ → ℤ)) → AllZero (size + 1) o → IfSome (cut_sums size o) (IsMatrix size)
  cut_fits None h = tt
  cut_fits (Some a) h = words_are_matrix size (λ i j. cut_of (a i j)) (λ i j. cut_is_word (a i j)) (λ i lt. zero_cut (a i i) (h i lt))
    where
      zero_cut : (x : ℤ) → x ≡ pos 0 → cut_of x ≡ pos 0
      zero_cut x e = grind (arith, ints, clamps)

  pub closed_fits : (m : List ℤ) → ((i : ℕ) → i < size + 1 → word (size + 1) m i i ≡ pos 0) → IfSome (closed size m) (IsMatrix size)
  closed_fits m flat = cut_fits (sums_through (size + 1) (size + 1) (word (size + 1) m)) (sums_zero (size + 1) (word (size + 1) m) flat (size + 1))
