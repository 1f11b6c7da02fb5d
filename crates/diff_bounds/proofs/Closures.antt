-- The closure exists, and is one.
use Rattle.std.proofs.Common.{◌≡◌, ℕ, zero, suc, ◌+◌, ◌*◌, ◌/◌, ◌%◌, ◌<◌, ◌≤◌, true, false, List, length, get_or, ℤ, pos, ◌+ℤ◌, ◌≤ℤ◌, ◌<ℤ◌, Option, Some, None, ◌⊎◌, inl, inr, refl, sym, ap, subst, ◌∙◌, arith}
use Rattle.std.specs.Prelude.{int_lt, int_le}
use Rattle.std.specs.Int.{int_min}
use Rattle.std.proofs.lemmas.Int.{ints, by_lt_z}
use Rattle.std.proofs.lemmas.Bool.{cases_eq, cases_Bool, and_parts, and_cases}
use Rattle.std.proofs.lemmas.Nat.{div-mul-add, mod-mul-add, div-add-mod', mod_below, div_below}
use Rattle.std.proofs.lemmas.List.FromFn.{fill_by_all, get_or-map-range_with_len, length-map-range_with_len}
use Rattle.diff_bounds.specs.Matrix.{word, none, IsWord, IsMatrix}
use Rattle.diff_bounds.specs.Paths.{cut_of, HasNoNegativeCycle, IsLeastSum, IsClosure}
use Rattle.diff_bounds.specs.Sums.{no_path, IsSum, IsSumOf, IsLesser, IsThrough, IsTight, AreShort, NegativeCycle, IsNegativeTrip}
use Rattle.diff_bounds.specs.Closed.{opened, lesser, through, is_tame, if_tame, sums_further, sums_through, cut_sums, closed, IsClosed, IsClosedOrNone}
use Rattle.diff_bounds.specs.Lattice.{matrix_of}
use Rattle.diff_bounds.proofs.Walks.{AreWords}
use Rattle.diff_bounds.proofs.Places.{place_fits}
use Rattle.diff_bounds.proofs.Tightness.{AreOpened, tight_first, short_first}
use Rattle.diff_bounds.proofs.Steps.{lesser_of, tight_again, short_after, negative_cycle, no_cycle, closure_of, cut_is_word, cut_zero}
use Rattle.diff_bounds.proofs.Ends.{words_of}

-- ---- one sum
opened_is : (x : ℤ) → IsSumOf x (opened x)
opened_is x = record { number = λ b. grind (arith, ints); absent = λ h. grind (arith, ints) }

kept_best : (best first second : ℤ) → (IsSum first → IsSum second → ⊥) → IsLesser best first second best
kept_best best first second h = record { kept = omega (arith, ints); lowered = λ s t. absurd (h s t); one = inl refl }

lesser_is : (best first second : ℤ) → IsLesser best first second (lesser best first second)
lesser_is best first second = by_first (cases_Bool (int_lt first no_path)) (cases_Bool (int_lt second no_path))
  where
    is_sum : (x : ℤ) → int_lt x no_path ≡ true → IsSum x
    is_sum x e = grind (arith, ints)

    is_none : (x : ℤ) → int_lt x no_path ≡ false → IsSum x → ⊥
    is_none x e s = grind (arith, ints)

    by_first : (int_lt first no_path ≡ true) ⊎ (int_lt first no_path ≡ false) → (int_lt second no_path ≡ true) ⊎ (int_lt second no_path ≡ false) → IsLesser best first second (lesser best first second)
    by_first (inl e) (inl f) = rw (e, f) (lesser_of best first second (int_min best (first +ℤ second)) (is_sum first e) (is_sum second f) refl)
    by_first (inl e) (inr f) = rw (e, f) (kept_best best first second (λ s t. is_none second f t))
    by_first (inr e) g = rw e (kept_best best first second (λ s t. is_none first e s))

through_is : (n via : ℕ) (a : ℕ → ℕ → ℤ) → IsThrough n via a (through via a)
through_is n via a = record { words = λ i j h g. lesser_is (a i j) (a i via) (a via j) }

-- ---- the diagonal
tame_at : (w : ℕ → ℕ → ℤ) (n : ℕ) → is_tame w n ≡ true → (i : ℕ) → i < n → pos 0 ≤ℤ w i i
tame_at w zero e i h = absurd (omega arith)
tame_at w (suc n) e i h =
    let parts = and_parts (int_le (pos 0) (w n n)) (is_tame w n) e in
    elim (cases_eq i n) as (λ _. pos 0 ≤ℤ w i i) [
      | inl same ↦ subst (λ (k : ℕ). pos 0 ≤ℤ w k k) (sym same) (le_of (w n n) parts.0)
      | inr ne ↦ tame_at w n parts.1 i (omega arith)
    ]
  where
    le_of : (z : ℤ) → int_le (pos 0) z ≡ true → pos 0 ≤ℤ z
    le_of z f = grind (arith, ints)

wild_at : (w : ℕ → ℕ → ℤ) (n : ℕ) → is_tame w n ≡ false → (i : ℕ) × (i < n) × (w i i <ℤ pos 0)
wild_at w zero e = absurd (let f : true ≡ false = e in cc)
wild_at w (suc n) e = by_part (and_cases (int_le (pos 0) (w n n)) (is_tame w n) e) (λ f. wild_at w n f)
  where
    lt_of : (z : ℤ) → int_le (pos 0) z ≡ false → z <ℤ pos 0
    lt_of z f = grind (arith, ints)

    by_part : (int_le (pos 0) (w n n) ≡ false) ⊎ (is_tame w n ≡ false) → (is_tame w n ≡ false → (i : ℕ) × (i < n) × (w i i <ℤ pos 0)) → (i : ℕ) × (i < suc n) × (w i i <ℤ pos 0)
    by_part (inl f) more = (n, omega arith, lt_of (w n n) f)
    by_part (inr f) more = let r = more f in (r.0, omega (arith, r.1), r.2)

-- ---- the sums through the first places
record AreSums (n k : ℕ) (old a : ℕ → ℕ → ℤ) : Type 0 where
  tight : IsTight n k old a
  short : AreShort n a

abbrev SumsOr : ℕ → ℕ → (ℕ → ℕ → ℤ) → Option (ℕ → ℕ → ℤ) → Type 0
SumsOr n k old (Some a) = AreSums n k old a
SumsOr n k old None = NegativeCycle n old

one_more : (n k : ℕ) (old a : ℕ → ℕ → ℤ) → n ≤ 9 → k < n → AreWords n old → AreSums n k old a → SumsOr n (k + 1) old (if_tame n (through k a))
one_more n k old a few lt words are = by_diagonal (cases_Bool (is_tame (through k a) n))
  where
    by_diagonal : (is_tame (through k a) n ≡ true) ⊎ (is_tame (through k a) n ≡ false) → SumsOr n (k + 1) old (if_tame n (through k a))
    by_diagonal (inl e) =
        let diagonal : (i : ℕ) → i < n → through k a i i ≡ pos 0 = λ i h.
        let low = tame_at (through k a) n e i h in
        let kept = (lesser_is (a i i) (a i k) (a k i)).kept in
        let zero_sum = are.tight.diagonal i h in
        omega (arith, ints, low, kept, zero_sum) in
        let tight = tight_again n k old a (through k a) lt are.tight are.short (through_is n k a) diagonal in
        rw e (record { tight = tight; short = short_after n k old a (through k a) few lt words are.short (through_is n k a) tight })
    by_diagonal (inr e) =
        let wild = wild_at (through k a) n e in
        rw e (negative_cycle n k old a lt are.tight wild.0 wild.1 (trip wild.0 wild.1 wild.2 (lesser_is (a wild.0 wild.0) (a wild.0 k) (a k wild.0)).one))
      where
        trip : (i : ℕ) → i < n → through k a i i <ℤ pos 0 → (through k a i i ≡ a i i) ⊎ (IsSum (a i k) × IsSum (a k i) × (through k a i i ≡ a i k +ℤ a k i)) → IsNegativeTrip a i k
        trip i h low (inl same) = absurd (let zero_sum = are.tight.diagonal i h in omega (arith, ints, zero_sum))
        trip i h low (inr (s, t, sum)) = record { out = s; back = t; negative = omega (arith, ints) }

sums_are : (n : ℕ) (old : ℕ → ℕ → ℤ) → n ≤ 9 → AreWords n old → ((i : ℕ) → i < n → old i i ≡ pos 0) → (k : ℕ) → k ≤ n → SumsOr n k old (sums_through n k old)
unfolding sums_through
sums_are n old few words diagonal zero h =
    let opened_ : AreOpened n old (λ i j. opened (old i j)) = record { words = λ i j g l. opened_is (old i j) } in
    record { tight = tight_first n old (λ i j. opened (old i j)) diagonal opened_; short = short_first n old (λ i j. opened (old i j)) words opened_ }
sums_are n old few words diagonal (suc k) h = go_on (sums_through n k old) (sums_are n old few words diagonal k (omega arith))
  where
    go_on : (o : Option (ℕ → ℕ → ℤ)) → SumsOr n k old o → SumsOr n (suc k) old (sums_further n k o)
    go_on (Some a) are = let e : k + 1 ≡ suc k = omega arith in subst (λ (m : ℕ). SumsOr n m old (if_tame n (through k a))) e (one_more n k old a few (omega arith) words are)
    go_on None bad = bad

-- ---- the cut sums as a list
word_at : (size : ℕ) (f : ℕ → ℕ → ℤ) (i j : ℕ) → i < size + 1 → j < size + 1 → word (size + 1) (matrix_of size (λ k. f (k / (size + 1)) (k % (size + 1)))) i j ≡ f i j
word_at size f i j h g =
    let here = get_or-map-range_with_len (λ k. f (k / (size + 1)) (k % (size + 1))) 0 ((size + 1) * (size + 1)) (i * (size + 1) + j) (i * (size + 1) + j) (pos 0) (place_fits (size + 1) i j h g) (omega arith) in
    here ∙ ap (λ (x : ℕ). f x ((i * (size + 1) + j) % (size + 1))) (div-mul-add i (size + 1) j g) ∙ ap (λ (x : ℕ). f i x) (mod-mul-add i (size + 1) j g)

closed_of : (size : ℕ) (m : List ℤ) (a : ℕ → ℕ → ℤ) → IsMatrix size m → AreSums (size + 1) (size + 1) (word (size + 1) m) a → IsClosed size m (matrix_of size (λ k. cut_of (a (k / (size + 1)) (k % (size + 1)))))
closed_of size m a is are = record {
  matrix = record {
    width = length-map-range_with_len (λ k. cut_of (a (k / (size + 1)) (k % (size + 1)))) 0 ((size + 1) * (size + 1));
    words = λ k h. subst (λ (x : ℤ). IsWord x) (sym (get_or-map-range_with_len (λ k. cut_of (a (k / (size + 1)) (k % (size + 1)))) 0 ((size + 1) * (size + 1)) k k (pos 0) (omega (arith, length-map-range_with_len (λ k. cut_of (a (k / (size + 1)) (k % (size + 1)))) 0 ((size + 1) * (size + 1)))) (omega arith))) (cut_is_word (a (k / (size + 1)) (k % (size + 1))));
    diagonal = λ i h. word_at size (λ i j. cut_of (a i j)) i i h h ∙ cut_zero (a i i) (are.tight.diagonal i h);
  };
  tame = no_cycle (size + 1) (word (size + 1) m) a (words_of size m is) are.tight;
  closure = closure_of (size + 1) (word (size + 1) m) a (word (size + 1) (matrix_of size (λ k. cut_of (a (k / (size + 1)) (k % (size + 1)))))) (words_of size m is) are.tight (λ i j h g. word_at size (λ i j. cut_of (a i j)) i j h g);
}

pub closed_or : (size : ℕ) (m : List ℤ) → size ≤ 8 → IsMatrix size m → IsClosedOrNone size m (closed size m)
closed_or size m few is = by_sums (sums_through (size + 1) (size + 1) (word (size + 1) m)) (sums_are (size + 1) (word (size + 1) m) (omega arith) (words_of size m is) is.diagonal (size + 1) (omega arith))
  where
    by_sums : (o : Option (ℕ → ℕ → ℤ)) → SumsOr (size + 1) (size + 1) (word (size + 1) m) o → IsClosedOrNone size m (cut_sums size o)
    by_sums (Some a) are = closed_of size m a is are
    by_sums None bad = λ tame. let sum = tame.cycle bad.at bad.between bad.within bad.path in let low = bad.negative in omega (arith, ints, sum, low)

-- ---- one closure
least_is_one : (n : ℕ) (w : ℕ → ℕ → ℤ) (i j : ℕ) (x y : ℤ) → IsWord x → IsWord y → IsLeastSum n w i j x → IsLeastSum n w i j y → x ≤ℤ y
least_is_one n w i j x y a b p q = by_lt_z y none
    (λ (lt : y <ℤ none). let r = q.reached lt in let least = p.least r.0 r.1 in subst (λ (z : ℤ). x ≤ℤ z) (sym r.2) least)
    (λ (le : none ≤ℤ y). let top = a.top in omega (arith, ints, top))

same_words : (n : ℕ) (a b : List ℤ) → length a ≡ n → length b ≡ n → ((k : ℕ) → k < n → get_or a k (pos 0) ≡ get_or b k (pos 0)) → a ≡ b
same_words n a b e f h = fill_by_all (λ (k : ℕ). get_or b k (pos 0)) a n (pos 0) e h ∙ sym (fill_by_all (λ (k : ℕ). get_or b k (pos 0)) b n (pos 0) f (λ k g. refl))

pub one : (size : ℕ) (m c d : List ℤ) → IsMatrix size c → IsMatrix size d → IsClosure (size + 1) (word (size + 1) m) (word (size + 1) c) → IsClosure (size + 1) (word (size + 1) m) (word (size + 1) d) → c ≡ d
one size m c d h k p q = same_words ((size + 1) * (size + 1)) c d h.width k.width (λ at lt. each at (omega (arith, h.width)))
  where
    each : (at : ℕ) → at < length c → get_or c at (pos 0) ≡ get_or d at (pos 0)
    each at lt =
        let row : at / (size + 1) < size + 1 = div_below at (size + 1) (size + 1) (omega arith) (omega (arith, h.width)) in
        let column : at % (size + 1) < size + 1 = mod_below at (size + 1) (omega arith) in
        let place : at / (size + 1) * (size + 1) + at % (size + 1) ≡ at = div-add-mod' at (size + 1) in
        let x = h.words at lt in let y = k.words at (omega (arith, h.width, k.width)) in
        let low : get_or c at (pos 0) ≤ℤ get_or d at (pos 0) = subst (λ (z : ℕ). get_or c z (pos 0) ≤ℤ get_or d z (pos 0)) place (least_is_one (size + 1) (word (size + 1) m) (at / (size + 1)) (at % (size + 1)) _ _ (subst (λ (z : ℕ). IsWord (get_or c z (pos 0))) (sym place) x) (subst (λ (z : ℕ). IsWord (get_or d z (pos 0))) (sym place) y) (p.sums (at / (size + 1)) (at % (size + 1)) row column) (q.sums (at / (size + 1)) (at % (size + 1)) row column)) in
        let high : get_or d at (pos 0) ≤ℤ get_or c at (pos 0) = subst (λ (z : ℕ). get_or d z (pos 0) ≤ℤ get_or c z (pos 0)) place (least_is_one (size + 1) (word (size + 1) m) (at / (size + 1)) (at % (size + 1)) _ _ (subst (λ (z : ℕ). IsWord (get_or d z (pos 0))) (sym place) y) (subst (λ (z : ℕ). IsWord (get_or c z (pos 0))) (sym place) x) (q.sums (at / (size + 1)) (at % (size + 1)) row column) (p.sums (at / (size + 1)) (at % (size + 1)) row column)) in
        omega (arith, ints, low, high)

-- ---- what closing leaves
some_closed : (size : ℕ) (m c : List ℤ) (o : Option (List ℤ)) → IsClosedOrNone size m o → IsClosed size m c → o ≡ Some c
some_closed size m c (Some d) is closed_ = ap Some (one size m d c is.matrix closed_.matrix is.closure closed_.closure)
some_closed size m c None wild closed_ = absurd (wild closed_.tame)

none_closed : (size : ℕ) (m : List ℤ) (o : Option (List ℤ)) → IsClosedOrNone size m o → NegativeCycle (size + 1) (word (size + 1) m) → o ≡ None
none_closed size m (Some d) is bad = absurd (let sum = is.tame.cycle bad.at bad.between bad.within bad.path in let low = bad.negative in omega (arith, ints, sum, low))
none_closed size m None wild bad = refl

pub closed_to : (size : ℕ) (m c : List ℤ) → size ≤ 8 → IsMatrix size m → IsClosed size m c → closed size m ≡ Some c
closed_to size m c few is closed_ = some_closed size m c (closed size m) (closed_or size m few is) closed_

pub closed_nowhere : (size : ℕ) (m : List ℤ) → size ≤ 8 → IsMatrix size m → NegativeCycle (size + 1) (word (size + 1) m) → closed size m ≡ None
closed_nowhere size m few is bad = none_closed size m (closed size m) (closed_or size m few is) bad

pub none_closed_without : (size : ℕ) (m : List ℤ) → size ≤ 8 → IsMatrix size m → (HasNoNegativeCycle (size + 1) (word (size + 1) m) → ⊥) → closed size m ≡ None
none_closed_without size m few is wild = by_option (closed size m) (closed_or size m few is)
  where
    by_option : (o : Option (List ℤ)) → IsClosedOrNone size m o → o ≡ None
    by_option (Some d) closed_ = absurd (wild closed_.tame)
    by_option None w = refl
