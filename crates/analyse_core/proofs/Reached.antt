-- The marks of the last round are those of the paragraphs that are reached.
use Rattle.std.proofs.Common.{◌≡◌, ◌+◌, ◌≤◌, ◌<◌, ◌⊎◌, inl, inr, ⊎_elim, ℕ, zero, suc, Bool, true, false, ◌&&◌, ◌||◌, List, [], ◌∷◌, map, length, get_or, refl, sym, ap, ◌∙◌, arith}
use Rattle.std.specs.List.{range_with_len}
use Rattle.std.proofs.lemmas.Bool.{cases_lt}
use Rattle.std.proofs.lemmas.List.{get_or_past}
use Rattle.std.proofs.lemmas.List.FromFn.{get_or-map-range_with_len}
use Rattle.analyse_core.specs.declared.mention.Mention.{Mention}
use Rattle.analyse_core.specs.Reaching.{same_marks, marks_of, is_performed, performs, is_performed_in, is_performed_by, reached_through, reached, IsReached, directly, onward, ReachedAreMarked}
use Rattle.analyse_core.proofs.Marks.{same_are, wide}

-- ---- tests

left_or : (a b : Bool) → a ≡ true → (a || b) ≡ true
left_or true b e = refl
left_or false b e = absurd (cc e)

right_or : (a b : Bool) → b ≡ true → (a || b) ≡ true
right_or true b e = refl
right_or false b e = e

one_of : (a b : Bool) → (a || b) ≡ true → (a ≡ true) ⊎ (b ≡ true)
one_of true b e = inl refl
one_of false b e = inr e

two_of : (a b : Bool) → (a && b) ≡ true → (a ≡ true) × (b ≡ true)
two_of true b e = (refl, e)
two_of false b e = absurd (cc e)

-- ---- rows of marks, of which one has at least the marks of the other

abbrev AreKept : List Bool → List Bool → Type 0
AreKept [] [] = Unit {0}
AreKept (x ∷ xs) (y ∷ ys) = (x ≡ true → y ≡ true) × AreKept xs ys
AreKept _ _ = ⊥

abbrev unit_of : Bool → ℕ
unit_of true = 1
unit_of false = 0

abbrev count : List Bool → ℕ
count [] = 0
count (x ∷ xs) = unit_of x + count xs

count_most : (xs : List Bool) → count xs ≤ length xs
count_most [] = omega arith
count_most (true ∷ xs) = let more = count_most xs in omega (arith, more)
count_most (false ∷ xs) = let more = count_most xs in omega (arith, more)

kept_count : (xs ys : List Bool) → AreKept xs ys → count xs ≤ count ys
kept_count [] [] k = omega arith
kept_count [] (y ∷ ys) k = absurd k
kept_count (x ∷ xs) [] k = absurd k
kept_count (true ∷ xs) (true ∷ ys) (h, k) = let more = kept_count xs ys k in omega (arith, more)
kept_count (true ∷ xs) (false ∷ ys) (h, k) = let no_mark = h refl in absurd (cc no_mark)
kept_count (false ∷ xs) (true ∷ ys) (h, k) = let more = kept_count xs ys k in omega (arith, more)
kept_count (false ∷ xs) (false ∷ ys) (h, k) = let more = kept_count xs ys k in omega (arith, more)

-- where marks that are kept differ, the later list has more of them
differing : (xs ys : List Bool) → AreKept xs ys → same_marks xs ys ≡ false → suc (count xs) ≤ count ys
differing [] [] k e = absurd (cc e)
differing [] (y ∷ ys) k e = absurd k
differing (x ∷ xs) [] k e = absurd k
differing (true ∷ xs) (true ∷ ys) (h, k) e = let more = differing xs ys k e in omega (arith, more)
differing (true ∷ xs) (false ∷ ys) (h, k) e = let no_mark = h refl in absurd (cc no_mark)
differing (false ∷ xs) (true ∷ ys) (h, k) e = let more = kept_count xs ys k in omega (arith, more)
differing (false ∷ xs) (false ∷ ys) (h, k) e = let more = differing xs ys k e in omega (arith, more)

map_kept : (f g : ℕ → Bool) (ks : List ℕ) → ((k : ℕ) → f k ≡ true → g k ≡ true) → AreKept (map f ks) (map g ks)
map_kept f g [] h = tt
map_kept f g (k ∷ ks) h = (h k, map_kept f g ks h)

-- ---- what marked paragraphs perform

performs_kept : (x y : Bool) (text : List Mention) (para : ℕ) → (x ≡ true → y ≡ true) → performs para x text ≡ true → performs para y text ≡ true
performs_kept x y text para h e =
    let both = two_of x (is_performed para text) e in
    ap (λ b. b && is_performed para text) (h both.0) ∙ both.1

in_kept : (xs ys : List Bool) (texts : List (List Mention)) (para : ℕ) → AreKept xs ys → is_performed_in xs texts para ≡ true → is_performed_in ys texts para ≡ true
in_kept [] ys texts para k e = absurd (cc e)
in_kept (x ∷ xs) [] texts para k e = absurd k
in_kept (x ∷ xs) (y ∷ ys) [] para k e = absurd (cc e)
in_kept (x ∷ xs) (y ∷ ys) (text ∷ texts) para (h, k) e =
    ⊎_elim
    (λ (a : performs para x text ≡ true). left_or (performs para y text) (is_performed_in ys texts para) (performs_kept x y text para h a))
    (λ (b : is_performed_in xs texts para ≡ true). right_or (performs para y text) (is_performed_in ys texts para) (in_kept xs ys texts para k b))
    (one_of (performs para x text) (is_performed_in xs texts para) e)

-- one of the marked paragraphs performs this one
record Performs (marks : List Bool) (texts : List (List Mention)) (para : ℕ) : Type 0 where
  over : ℕ
  within : over < length texts
  mark : get_or marks over false ≡ true
  performed : is_performed para (get_or texts over []) ≡ true

one_behind : (x : Bool) (marks : List Bool) (text : List Mention) (texts : List (List Mention)) (para : ℕ) → Performs marks texts para →
    Performs (x ∷ marks) (text ∷ texts) para
one_behind x marks text texts para p =
    let l = p.within in
    record { over = suc p.over; within = omega (arith, l); mark = p.mark; performed = p.performed }

who_performs : (marks : List Bool) (texts : List (List Mention)) (para : ℕ) → is_performed_in marks texts para ≡ true → Performs marks texts para
who_performs [] texts para e = absurd (cc e)
who_performs (x ∷ marks) [] para e = absurd (cc e)
who_performs (x ∷ marks) (text ∷ texts) para e =
    ⊎_elim
    (λ (a : performs para x text ≡ true).
    let both = two_of x (is_performed para text) a in record { over = 0; within = omega arith; mark = both.0; performed = both.1 })
    (λ (b : is_performed_in marks texts para ≡ true). one_behind x marks text texts para (who_performs marks texts para b))
    (one_of (performs para x text) (is_performed_in marks texts para) e)

is_there : (marks : List Bool) (texts : List (List Mention)) (para over : ℕ) → over < length texts → get_or marks over false ≡ true →
    is_performed para (get_or texts over []) ≡ true → is_performed_in marks texts para ≡ true
is_there [] texts para over l m e = absurd (cc m)
is_there (x ∷ marks) [] para over l m e = absurd (omega (arith, l))
is_there (x ∷ marks) (text ∷ texts) para zero l m e =
    left_or (performs para x text) (is_performed_in marks texts para) (ap (λ b. b && is_performed para text) m ∙ e)
is_there (x ∷ marks) (text ∷ texts) para (suc over) l m e =
    right_or (performs para x text) (is_performed_in marks texts para) (is_there marks texts para over (omega (arith, l)) m e)

-- ---- rounds

module _ (texts : List (List Mention)) (own : List Mention) where
  abbrev step : List Bool → List Bool
  step marks = marks_of texts own (is_performed_by texts own marks)

  abbrev at : ℕ → List Bool
  at n = reached_through texts own n

  abbrev IsEnded : ℕ → Type 0
  IsEnded n = at (suc n) ≡ at n

  step_kept : (xs ys : List Bool) → AreKept xs ys → AreKept (step xs) (step ys)
  step_kept xs ys k =
      map_kept (is_performed_by texts own xs) (is_performed_by texts own ys) (range_with_len 0 (length texts))
      (λ para e.
      ⊎_elim
      (λ (a : is_performed para own ≡ true). left_or (is_performed para own) (is_performed_in ys texts para) a)
      (λ (b : is_performed_in xs texts para ≡ true). right_or (is_performed para own) (is_performed_in ys texts para) (in_kept xs ys texts para k b))
      (one_of (is_performed para own) (is_performed_in xs texts para) e))

  grows : (n : ℕ) → AreKept (at n) (at (suc n))
  grows zero =
      map_kept (λ para. is_performed para own) (is_performed_by texts own (at 0)) (range_with_len 0 (length texts))
      (λ para e. left_or (is_performed para own) (is_performed_in (at 0) texts para) e)
  grows (suc n) = step_kept (at n) (at (suc n)) (grows n)

  one_round : (n : ℕ) → n ≤ count (at n) → (b : Bool) → same_marks (at n) (at (suc n)) ≡ b → IsEnded n ⊎ (suc n ≤ count (at (suc n)))
  one_round n l true e = inl (sym (same_are (at n) (at (suc n)) (wide texts own n ∙ sym (wide texts own (suc n))) e))
  one_round n l false e = let more = differing (at n) (at (suc n)) (grows n) e in inr (omega (arith, l, more))

  ended_or_more : (n : ℕ) → IsEnded n ⊎ (suc n ≤ count (at (suc n)))
  ended_or_more zero = one_round 0 (omega arith) (same_marks (at 0) (at 1)) refl
  ended_or_more (suc n) =
      ⊎_elim (λ (e : IsEnded n). inl (ap step e)) (λ (l : suc n ≤ count (at (suc n))). one_round (suc n) l (same_marks (at (suc n)) (at (suc (suc n)))) refl)
      (ended_or_more n)

  fixed : step (reached texts own) ≡ reached texts own
  fixed =
      ⊎_elim (λ (e : IsEnded (length texts)). e)
      (λ (l : suc (length texts) ≤ count (at (suc (length texts)))).
      let most = count_most (at (suc (length texts))) in
      let same = wide texts own (suc (length texts)) in
      absurd (omega (arith, l, most, same)))
      (ended_or_more (length texts))

  mark_is : (test : ℕ → Bool) (para : ℕ) → para < length texts → get_or (marks_of texts own test) para false ≡ test para
  mark_is test para l = get_or-map-range_with_len test 0 (length texts) para para false l (omega arith)

  sound : (n para : ℕ) → para < length texts → get_or (at n) para false ≡ true → IsReached texts own para
  sound zero para l e = directly (sym (mark_is (λ k. is_performed k own) para l) ∙ e)
  sound (suc n) para l e =
      ⊎_elim (λ (a : is_performed para own ≡ true). directly a)
      (λ (b : is_performed_in (at n) texts para ≡ true).
      let p = who_performs (at n) texts para b in onward p.over (sound n p.over p.within p.mark) p.performed)
      (one_of (is_performed para own) (is_performed_in (at n) texts para) (sym (mark_is (is_performed_by texts own (at n)) para l) ∙ e))

  marked : (para : ℕ) → para < length texts → is_performed_by texts own (reached texts own) para ≡ true → get_or (reached texts own) para false ≡ true
  marked para l e =
      ap (λ marks. get_or marks para false) (sym fixed) ∙ mark_is (is_performed_by texts own (reached texts own)) para l ∙ e

  nothing_past : (over para : ℕ) → length texts ≤ over → is_performed para (get_or texts over []) ≡ true → ⊥
  nothing_past over para l e =
      let none : false ≡ true = sym (ap (is_performed para) (get_or_past texts over [] l)) ∙ e in absurd (cc none)

  whole : (para : ℕ) → IsReached texts own para → para < length texts → get_or (reached texts own) para false ≡ true
  whole para (directly e) l = marked para l (left_or (is_performed para own) (is_performed_in (reached texts own) texts para) e)
  whole para (onward over r e) l =
      ⊎_elim
      (λ (h : over < length texts).
      marked para l (right_or (is_performed para own) (is_performed_in (reached texts own) texts para)
      (is_there (reached texts own) texts para over h (whole over r h) e)))
      (λ (h : length texts ≤ over). absurd (nothing_past over para h e))
      (cases_lt over (length texts))

pub reached_are_marked : ReachedAreMarked
reached_are_marked texts own = record {
  wide = wide texts own (length texts);
  marked = λ para l e. sound texts own (length texts) para l e;
  whole = λ para l h. whole texts own para h l;
}
