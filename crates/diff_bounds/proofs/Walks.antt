-- Without negative cycles few places between two ends suffice.
use Rattle.std.proofs.Common.{◌≡◌, ◌≢◌, ℕ, zero, suc, ◌+◌, ◌-◌, ◌*◌, ◌^◌, ◌<◌, ◌≤◌, Bool, true, false, cond, eqb, ltb, List, [], ◌∷◌, ◌++◌, length, ℤ, pos, ◌+ℤ◌, ◌≤ℤ◌, ◌⊎◌, inl, inr, refl, sym, ap, subst, arith}
use Rattle.std.proofs.lemmas.Int.{ints}
use Rattle.std.proofs.lemmas.Bool.{cases_eq, eq-eqb, ne_eqb, lt-ltb, ltb-true, false≢true}
use Rattle.diff_bounds.specs.Matrix.{IsBound, IsWord}
use Rattle.diff_bounds.specs.Paths.{path_sum, AreBounds, AreBelow}

-- no cycle through the first k places is negative
pub record HasNoNegativeCycleBelow (n k : ℕ) (w : ℕ → ℕ → ℤ) : Type 0 where
  pub cycle : (v : ℕ) (p : List ℕ) → v < n → AreBelow k p → AreBounds w v p v → pos 0 ≤ℤ path_sum w v p v

-- each place between passes the test
abbrev Pass : (ℕ → Bool) → List ℕ → Type 0
Pass a [] = Unit {0}
Pass a (v ∷ between) = (a v ≡ true) × Pass a between

-- the test without one place
abbrev forbid : (ℕ → Bool) → ℕ → ℕ → Bool
forbid a v x = cond (eqb x v) false (a x)

forbid_other : (a : ℕ → Bool) (v x : ℕ) → a x ≡ true → (x ≡ v → ⊥) → forbid a v x ≡ true
forbid_other a v x h ne = rw (ne_eqb x v ne) h

forbid_same : (a : ℕ → Bool) (v : ℕ) → forbid a v v ≡ false
forbid_same a v = rw (eq-eqb v v refl) refl

cond_true : (b c : Bool) → cond b false c ≡ true → c ≡ true
cond_true true c e = absurd (false≢true e)
cond_true false c e = e

forbid_less : (a : ℕ → Bool) (v x : ℕ) → forbid a v x ≡ true → a x ≡ true
forbid_less a v x h = cond_true (eqb x v) (a x) h

pass_less : (a : ℕ → Bool) (v : ℕ) (p : List ℕ) → Pass (forbid a v) p → Pass a p
pass_less a v [] h = tt
pass_less a v (x ∷ p) (h, k) = (forbid_less a v x h, pass_less a v p k)

-- ---- how many places pass
abbrev one_if : Bool → ℕ
one_if true = 1
one_if false = 0

abbrev count_below : (ℕ → Bool) → ℕ → ℕ
count_below a zero = 0
count_below a (suc n) = one_if (a n) + count_below a n

one_if_small : (b : Bool) → one_if b ≤ 1
one_if_small true = omega arith
one_if_small false = omega arith

count_small : (a : ℕ → Bool) (n : ℕ) → count_below a n ≤ n
count_small a zero = omega arith
count_small a (suc n) = omega (arith, one_if_small (a n), count_small a n)

count_one_less : (a : ℕ → Bool) (i n : ℕ) → a i ≡ false → i < n → count_below a n + 1 ≤ n
count_one_less a i zero h lt = absurd (omega arith)
count_one_less a i (suc n) h lt =
    elim (cases_eq n i) as (λ _. count_below a (suc n) + 1 ≤ suc n) [
      | inl e ↦ omega (arith, count_small a n, ap one_if (subst (λ (x : ℕ). a x ≡ false) (sym e) h))
      | inr ne ↦ omega (arith, one_if_small (a n), count_one_less a i n h (omega arith))
    ]

count_two_less : (a : ℕ → Bool) (i j n : ℕ) → a i ≡ false → a j ≡ false → i ≢ j → i < n → j < n → count_below a n + 2 ≤ n
count_two_less a i j zero h k ne lt less = absurd (omega arith)
count_two_less a i j (suc n) h k ne lt less =
    elim (cases_eq n i) as (λ _. count_below a (suc n) + 2 ≤ suc n) [
      | inl e ↦ omega (arith, count_one_less a j n k (omega arith), ap one_if (subst (λ (x : ℕ). a x ≡ false) (sym e) h))
      | inr other ↦ elim (cases_eq n j) as (λ _. count_below a (suc n) + 2 ≤ suc n) [
        | inl e ↦ omega (arith, count_one_less a i n h (omega arith), ap one_if (subst (λ (x : ℕ). a x ≡ false) (sym e) k))
        | inr another ↦ omega (arith, one_if_small (a n), count_two_less a i j n h k ne (omega arith) (omega arith))
      ]
    ]

forbid_unequal : (a : ℕ → Bool) (v x : ℕ) → (x ≡ v → ⊥) → forbid a v x ≡ a x
forbid_unequal a v x ne = rw (ne_eqb x v ne) refl

forbid_beyond : (a : ℕ → Bool) (v n : ℕ) → n ≤ v → count_below (forbid a v) n ≡ count_below a n
forbid_beyond a v zero h = refl
forbid_beyond a v (suc n) h = omega (arith, ap one_if (forbid_unequal a v n (λ e. omega arith)), forbid_beyond a v n (omega arith))

forbid_count : (a : ℕ → Bool) (v n : ℕ) → a v ≡ true → v < n → count_below (forbid a v) n + 1 ≡ count_below a n
forbid_count a v zero h lt = absurd (omega arith)
forbid_count a v (suc n) h lt =
    elim (cases_eq n v) as (λ _. count_below (forbid a v) (suc n) + 1 ≡ count_below a (suc n)) [
      | inl e ↦ omega (arith, forbid_beyond a v n (omega arith), ap one_if (subst (λ (x : ℕ). forbid a v x ≡ false) (sym e) (forbid_same a v)), ap one_if (subst (λ (x : ℕ). a x ≡ true) (sym e) h))
      | inr ne ↦ omega (arith, ap one_if (forbid_unequal a v n ne), forbid_count a v n h (omega arith))
    ]

-- ---- paths joined at a place
pub bounds_before : (w : ℕ → ℕ → ℤ) (i : ℕ) (p : List ℕ) (v : ℕ) (q : List ℕ) (j : ℕ) → AreBounds w i (p ++ v ∷ q) j → AreBounds w i p v
bounds_before w i [] v q j h = h.0
bounds_before w i (x ∷ p) v q j h = (h.0, bounds_before w x p v q j h.1)

pub bounds_after : (w : ℕ → ℕ → ℤ) (i : ℕ) (p : List ℕ) (v : ℕ) (q : List ℕ) (j : ℕ) → AreBounds w i (p ++ v ∷ q) j → AreBounds w v q j
bounds_after w i [] v q j h = h.1
bounds_after w i (x ∷ p) v q j h = bounds_after w x p v q j h.1

pub bounds_join : (w : ℕ → ℕ → ℤ) (i : ℕ) (p : List ℕ) (v : ℕ) (q : List ℕ) (j : ℕ) → AreBounds w i p v → AreBounds w v q j → AreBounds w i (p ++ v ∷ q) j
bounds_join w i [] v q j h k = (h, k)
bounds_join w i (x ∷ p) v q j h k = (h.0, bounds_join w x p v q j h.1 k)

pub sum_join : (w : ℕ → ℕ → ℤ) (i : ℕ) (p : List ℕ) (v : ℕ) (q : List ℕ) (j : ℕ) → path_sum w i (p ++ v ∷ q) j ≡ path_sum w i p v +ℤ path_sum w v q j
sum_join w i [] v q j = refl
sum_join w i (x ∷ p) v q j = omega (arith, ints, sum_join w x p v q j)

pub below_join : (n : ℕ) (p : List ℕ) (v : ℕ) (q : List ℕ) → AreBelow n p → v < n → AreBelow n q → AreBelow n (p ++ v ∷ q)
below_join n [] v q h lt k = (lt, k)
below_join n (x ∷ p) v q h lt k = (h.0, below_join n p v q h.1 lt k)

pub below_more : (m n : ℕ) (p : List ℕ) → m ≤ n → AreBelow m p → AreBelow n p
below_more m n [] h k = tt
below_more m n (x ∷ p) h k = (omega (arith, k.0), below_more m n p h k.1)

pass_before : (a : ℕ → Bool) (p : List ℕ) (v : ℕ) (q : List ℕ) → Pass a (p ++ v ∷ q) → Pass a p
pass_before a [] v q h = tt
pass_before a (x ∷ p) v q h = (h.0, pass_before a p v q h.1)

-- ---- round trips left out
-- no cycle through places that pass is negative
record IsTame (n k : ℕ) (w : ℕ → ℕ → ℤ) (a : ℕ → Bool) : Type 0 where
  some : k ≤ n
  within : (x : ℕ) → a x ≡ true → x < k
  cycle : (v : ℕ) (p : List ℕ) → v < n → Pass a p → AreBounds w v p v → pos 0 ≤ℤ path_sum w v p v

tame_less : (n k : ℕ) (w : ℕ → ℕ → ℤ) (a : ℕ → Bool) (v : ℕ) → IsTame n k w a → IsTame n k w (forbid a v)
tame_less n k w a v t = record {
  some = t.some;
  within = λ x h. t.within x (forbid_less a v x h);
  cycle = λ u p lt h b. t.cycle u p lt (pass_less a v p h) b;
}

-- a path through places that pass, whose sum is at most s
record Shortened (w : ℕ → ℕ → ℤ) (a : ℕ → Bool) (i j : ℕ) (s : ℤ) : Type 0 where
  between : List ℕ
  pass : Pass a between
  bounds : AreBounds w i between j
  less : path_sum w i between j ≤ℤ s

record Returns (a : ℕ → Bool) (v : ℕ) (p : List ℕ) : Type 0 where
  before : List ℕ
  after : List ℕ
  whole : p ≡ before ++ v ∷ after
  free : Pass (forbid a v) after

last_visit : (a : ℕ → Bool) (v : ℕ) (p : List ℕ) → Pass a p → Pass (forbid a v) p ⊎ Returns a v p
last_visit a v [] h = inl tt
last_visit a v (x ∷ p) (h, k) =
    elim (last_visit a v p k) as (λ _. Pass (forbid a v) (x ∷ p) ⊎ Returns a v (x ∷ p)) [
      | inl free ↦ elim (cases_eq x v) as (λ _. Pass (forbid a v) (x ∷ p) ⊎ Returns a v (x ∷ p)) [
        | inl e ↦ inr (record { before = []; after = p; whole = ap (λ (y : ℕ). y ∷ p) e; free = free })
        | inr ne ↦ inl (forbid_other a v x h ne, free)
      ]
      | inr r ↦ inr (record { before = x ∷ r.before; after = r.after; whole = ap (λ (t : List ℕ). x ∷ t) r.whole; free = r.free })
    ]

skip_returns : (n k : ℕ) (w : ℕ → ℕ → ℤ) (a : ℕ → Bool) → IsTame n k w a → (v j : ℕ) → v < n → (p : List ℕ) → Pass a p → AreBounds w v p j → Shortened w (forbid a v) v j (path_sum w v p j)
skip_returns n k w a t v j lt p h b = by_visit (last_visit a v p h)
  where
    skipped : (before after : List ℕ) → Pass (forbid a v) after → Pass a (before ++ v ∷ after) → AreBounds w v (before ++ v ∷ after) j → Shortened w (forbid a v) v j (path_sum w v (before ++ v ∷ after) j)
    skipped before after free all bound =
        let trip : pos 0 ≤ℤ path_sum w v before v = t.cycle v before lt (pass_before a before v after all) (bounds_before w v before v after j bound) in
        record {
          between = after;
          pass = free;
          bounds = bounds_after w v before v after j bound;
          less = omega (arith, ints, trip, sum_join w v before v after j);
        }

    by_visit : Pass (forbid a v) p ⊎ Returns a v p → Shortened w (forbid a v) v j (path_sum w v p j)
    by_visit (inl free) = record { between = p; pass = free; bounds = b; less = omega (arith, ints) }
    by_visit (inr r) =
        subst (λ (q : List ℕ). Shortened w (forbid a v) v j (path_sum w v q j)) (sym r.whole)
        (skipped r.before r.after r.free (subst (λ (q : List ℕ). Pass a q) r.whole h) (subst (λ (q : List ℕ). AreBounds w v q j) r.whole b))

stop_at_end : (n k : ℕ) (w : ℕ → ℕ → ℤ) (a : ℕ → Bool) → IsTame n k w a → (j : ℕ) → j < n → (i : ℕ) (p : List ℕ) → Pass a p → AreBounds w i p j → Shortened w (forbid a j) i j (path_sum w i p j)
stop_at_end n k w a t j lt i [] h b = record { between = []; pass = tt; bounds = b; less = omega (arith, ints) }
stop_at_end n k w a t j lt i (x ∷ p) (h, g) (b, d) = by_place (cases_eq x j) (stop_at_end n k w a t j lt x p g d)
  where
    ended : x ≡ j → Shortened w (forbid a j) i j (w i x +ℤ path_sum w x p j)
    ended e =
        let trip : pos 0 ≤ℤ path_sum w j p j = t.cycle j p lt g (subst (λ (y : ℕ). AreBounds w y p j) e d) in
        subst (λ (y : ℕ). Shortened w (forbid a j) i j (w i y +ℤ path_sum w y p j)) (sym e)
        (record { between = []; pass = tt; bounds = subst (λ (y : ℕ). IsBound (w i y)) e b; less = omega (arith, ints, trip) })

    by_place : (x ≡ j) ⊎ (x ≡ j → ⊥) → Shortened w (forbid a j) x j (path_sum w x p j) → Shortened w (forbid a j) i j (w i x +ℤ path_sum w x p j)
    by_place (inl e) s = ended e
    by_place (inr ne) s = record { between = x ∷ s.between; pass = (forbid_other a j x h ne, s.pass); bounds = (b, s.bounds); less = omega (arith, ints, s.less) }

-- a path through few places, whose sum is at most s
pub record Few (k : ℕ) (w : ℕ → ℕ → ℤ) (i j m : ℕ) (s : ℤ) : Type 0 where
  pub between : List ℕ
  pub below : AreBelow k between
  pub bounds : AreBounds w i between j
  pub few : length between ≤ m
  pub less : path_sum w i between j ≤ℤ s

shorten : (n k : ℕ) (w : ℕ → ℕ → ℤ) (m : ℕ) (a : ℕ → Bool) → count_below a n ≤ m → IsTame n k w a → (i j : ℕ) (p : List ℕ) → Pass a p → AreBounds w i p j → Few k w i j m (path_sum w i p j)
shorten n k w zero a c t i j [] h b = record { between = []; below = tt; bounds = b; few = omega arith; less = omega (arith, ints) }
shorten n k w zero a c t i j (v ∷ p) (h, g) b = absurd (omega (arith, forbid_count a v n h (omega (arith, t.some, t.within v h))))
shorten n k w (suc m) a c t i j [] h b = record { between = []; below = tt; bounds = b; few = omega arith; less = omega (arith, ints) }
shorten n k w (suc m) a c t i j (v ∷ p) (h, g) (b, d) =
    let s = skip_returns n k w a t v j (omega (arith, t.some, t.within v h)) p g d in
    let f = shorten n k w m (forbid a v) (omega (arith, forbid_count a v n h (omega (arith, t.some, t.within v h)))) (tame_less n k w a v t) v j s.between s.pass s.bounds in
    record {
      between = v ∷ f.between;
      below = (t.within v h, f.below);
      bounds = (b, f.bounds);
      few = omega (arith, f.few);
      less = omega (arith, ints, f.less, s.less);
    }

abbrev first_places : ℕ → ℕ → Bool
first_places k x = ltb x k

below_passes : (k : ℕ) (p : List ℕ) → AreBelow k p → Pass (first_places k) p
below_passes k [] h = tt
below_passes k (x ∷ p) (h, t) = (lt-ltb x k h, below_passes k p t)

passes_below : (k : ℕ) (p : List ℕ) → Pass (first_places k) p → AreBelow k p
passes_below k [] h = tt
passes_below k (x ∷ p) (h, t) = (ltb-true x k h, passes_below k p t)

forbid_false : (a : ℕ → Bool) (v x : ℕ) → a x ≡ false → forbid a v x ≡ false
forbid_false a v x h = by_case (eqb x v)
  where
    by_case : (b : Bool) → cond b false (a x) ≡ false
    by_case true = refl
    by_case false = h

-- Two fewer places than there are suffice between two ends.
pub few_suffice : (n k : ℕ) (w : ℕ → ℕ → ℤ) → k ≤ n → HasNoNegativeCycleBelow n k w → (i j : ℕ) → i < n → j < n → i ≢ j → (p : List ℕ) → AreBelow k p → AreBounds w i p j → Few k w i j (n - 2) (path_sum w i p j)
few_suffice n k w within tame i j lt less ne p h b =
    let start = skip_returns n k w (first_places k) all i j lt p (below_passes k p h) b in
    let stop = stop_at_end n k w (forbid (first_places k) i) (tame_less n k w (first_places k) i all) j less i start.between start.pass start.bounds in
    let f = shorten n k w (n - 2) ends (omega (arith, count_two_less ends i j n first (forbid_same (forbid (first_places k) i) j) ne lt less)) (tame_less n k w (forbid (first_places k) i) j (tame_less n k w (first_places k) i all)) i j stop.between stop.pass stop.bounds in
    record {
      between = f.between;
      below = f.below;
      bounds = f.bounds;
      few = f.few;
      less = omega (arith, ints, f.less, stop.less, start.less);
    }
  where
    ends : ℕ → Bool
    ends = forbid (forbid (first_places k) i) j

    all : IsTame n k w (first_places k)
    all = record {
      some = within;
      within = λ x e. ltb-true x k e;
      cycle = λ v q lt pass bound. tame.cycle v q lt (passes_below k q pass) bound;
    }

    first : forbid (forbid (first_places k) i) j i ≡ false
    first = forbid_false (forbid (first_places k) i) j i (forbid_same (first_places k) i)

-- ---- how large a sum is
pub record AreWords (n : ℕ) (w : ℕ → ℕ → ℤ) : Type 0 where
  pub words : (i j : ℕ) → i < n → j < n → IsWord (w i j)

pub sum_high : (n : ℕ) (w : ℕ → ℕ → ℤ) → AreWords n w → (i : ℕ) (p : List ℕ) (j : ℕ) → i < n → j < n → AreBelow n p → AreBounds w i p j → path_sum w i p j ≤ℤ pos ((length p + 1) * 10 ^ 37)
sum_high n w are i [] j lt less h b = let word : IsWord (w i j) = are.words i j lt less in omega (arith, ints)
sum_high n w are i (v ∷ p) j lt less (h, k) (b, d) =
    let word : IsWord (w i v) = are.words i v lt h in
    let rest : path_sum w v p j ≤ℤ pos ((length p + 1) * 10 ^ 37) = sum_high n w are v p j h less k d in
    omega (arith, ints)

pub sum_low : (n : ℕ) (w : ℕ → ℕ → ℤ) → AreWords n w → (i : ℕ) (p : List ℕ) (j : ℕ) → i < n → j < n → AreBelow n p → AreBounds w i p j → pos 0 ≤ℤ (path_sum w i p j +ℤ pos ((length p + 1) * 10 ^ 37))
sum_low n w are i [] j lt less h b = let word : IsWord (w i j) = are.words i j lt less in omega (arith, ints)
sum_low n w are i (v ∷ p) j lt less (h, k) (b, d) =
    let word : IsWord (w i v) = are.words i v lt h in
    let rest : pos 0 ≤ℤ (path_sum w v p j +ℤ pos ((length p + 1) * 10 ^ 37)) = sum_low n w are v p j h less k d in
    omega (arith, ints)
