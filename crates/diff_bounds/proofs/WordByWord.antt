-- Words by the order, joins and widening.
use Rattle.std.proofs.Common.{◌≡◌, ◌≢◌, ℕ, zero, suc, ◌+◌, ◌*◌, ◌<◌, ◌≤◌, List, [], ◌∷◌, length, get_or, set, ℤ, pos, neg_ℤ, Option, ◌≤ℤ◌, ◌<ℤ◌, ◌⊎◌, inl, inr, refl, sym, subst, ◌∙◌, arith}
use Rattle.std.specs.Int.{int_max, int_min}
use Rattle.std.proofs.lemmas.Int.{ints, clamps, by_lt_z}
use Rattle.std.proofs.lemmas.Bool.{cases_eq}
use Rattle.std.proofs.lemmas.List.{get_or-set_same, get_or-set_other, length-set}
use Rattle.std.proofs.lemmas.Grind.{get_or-set_at}
use Rattle.std.proofs.lemmas.List.FromFn.{fill_by_all}
use Rattle.diff_bounds.specs.Matrix.{word, none, largest, IsBound, IsWord, IsMatrix}
use Rattle.diff_bounds.specs.Order.{IsJoin, IsLeastAbove}
use Rattle.diff_bounds.specs.Widening.{AreThresholds, IsListed, IsNext, IsWidened, AreWidened}
use Rattle.diff_bounds.specs.Lattice.{joined, next_threshold, widened_word, widened}
use Rattle.diff_bounds.specs.Storages.{value_at, DifferBy, StandsIn}
use Rattle.diff_bounds.proofs.Places.{place_fits, word-set_other}
use Rattle.diff_bounds.proofs.Standing.{differ_more}

-- ---- joins
pub join_is_least : (a b c : List ℤ) → length b ≡ length a → length c ≡ length a → IsJoin a b c → IsLeastAbove a b c
join_is_least a b c e f j = record {
  left = record { words = λ k h. let is = j.words k h in omega (arith, ints, clamps) };
  right = record { words = λ k h. let is = j.words k (omega arith) in omega (arith, ints, clamps) };
  least = λ d left right. record { words = λ k h. let is = j.words k (omega arith) in let first = left.words k (omega arith) in let second = right.words k (omega arith) in omega (arith, ints, clamps) };
}

max_word : (x y z : ℤ) → z ≡ int_max x y → IsWord x → IsWord y → IsWord z
max_word x y z e h k = record {
  low = let first = h.low in omega (arith, ints, clamps);
  high = λ b. let first : x ≤ℤ largest = h.high (omega (arith, ints, clamps)) in let second : y ≤ℤ largest = k.high (omega (arith, ints, clamps)) in omega (arith, ints, clamps);
  top = let first = h.top in let second = k.top in omega (arith, ints, clamps);
}

pub join_matrix : (size : ℕ) (a b c : List ℤ) → IsMatrix size a → IsMatrix size b → length c ≡ length a → IsJoin a b c → IsMatrix size c
join_matrix size a b c is other e j = record {
  width = e ∙ is.width;
  words = λ k h. max_word (get_or a k (pos 0)) (get_or b k (pos 0)) (get_or c k (pos 0)) (j.words k (omega arith)) (is.words k (omega arith)) (other.words k (omega (arith, is.width, other.width)));
  diagonal = λ i h. let first = is.diagonal i h in let second = other.diagonal i h in let most = j.words (i * (size + 1) + i) (omega (arith, is.width, place_fits (size + 1) i i h h)) in omega (arith, ints, clamps);
}

pub join_row : (size : ℕ) (a b c : List ℤ) → IsMatrix size a → length c ≡ length a → IsJoin a b c → c ≡ joined size a b
join_row size a b c is e j =
    fill_by_all (λ (k : ℕ). int_max (get_or a k (pos 0)) (get_or b k (pos 0))) c ((size + 1) * (size + 1)) (pos 0) (e ∙ is.width) (λ k h. j.words k (omega (arith, is.width)))

-- ---- thresholds
-- the least of the first thresholds at or above z, or none
pub record IsNextOf (thresholds : List ℤ) (count : ℕ) (z x : ℤ) : Type 0 where
  pub one : (x ≡ none) ⊎ IsListed thresholds x
  pub above : z ≤ℤ x
  pub least : (k : ℕ) → k < count → z ≤ℤ get_or thresholds k (pos 0) → x ≤ℤ get_or thresholds k (pos 0)

pub next_first : (ts : List ℤ) (z : ℤ) → z ≤ℤ none → IsNextOf ts 0 z none
next_first ts z h = record { one = inl refl; above = h; least = λ k lt. absurd (omega arith) }

pub next_more : (ts : List ℤ) (count : ℕ) (z best x : ℤ) → count < length ts → IsNextOf ts count z best → x ≤ℤ best → (z ≤ℤ get_or ts count (pos 0) → x ≤ℤ get_or ts count (pos 0)) → (x ≡ best) ⊎ ((z ≤ℤ get_or ts count (pos 0)) × (x ≡ get_or ts count (pos 0))) → IsNextOf ts (count + 1) z x
next_more ts count z best x lt is kept taken one = record {
  one = by_one one;
  above = above one;
  least = λ k h. elim (cases_eq k count) as (λ _. z ≤ℤ get_or ts k (pos 0) → x ≤ℤ get_or ts k (pos 0)) [
    | inl e ↦ subst (λ (j : ℕ). z ≤ℤ get_or ts j (pos 0) → x ≤ℤ get_or ts j (pos 0)) (sym e) taken
    | inr ne ↦ λ (g : z ≤ℤ get_or ts k (pos 0)). let low : best ≤ℤ get_or ts k (pos 0) = is.least k (omega arith) g in omega (arith, ints)
  ];
}
  where
    by_one : (x ≡ best) ⊎ ((z ≤ℤ get_or ts count (pos 0)) × (x ≡ get_or ts count (pos 0))) → (x ≡ none) ⊎ IsListed ts x
    by_one (inl e) = subst (λ (y : ℤ). (y ≡ none) ⊎ IsListed ts y) (sym e) is.one
    by_one (inr (h, e)) = inr (count, lt, sym e)

    above : (x ≡ best) ⊎ ((z ≤ℤ get_or ts count (pos 0)) × (x ≡ get_or ts count (pos 0))) → z ≤ℤ x
    above (inl e) = let high = is.above in omega (arith, ints)
    above (inr (h, e)) = omega (arith, ints)

pub next_along : (ts : List ℤ) (count : ℕ) (z x y : ℤ) → y ≡ x → IsNextOf ts count z x → IsNextOf ts count z y
next_along ts count z x y e is = subst (λ (v : ℤ). IsNextOf ts count z v) (sym e) is

pub next_all : (ts : List ℤ) (count : ℕ) (z x y : ℤ) → length ts ≤ count → y ≡ x → IsNextOf ts count z x → IsNext ts z y
next_all ts count z x y few e is = subst (λ (v : ℤ). IsNext ts z v) (sym e) (record { one = is.one; above = is.above; least = λ k h. is.least k (omega arith) })

-- ---- widening
listed_word : (ts : List ℤ) → AreThresholds ts → (x : ℤ) → IsListed ts x → IsWord x
listed_word ts are x (k, h, e) = subst (λ (y : ℤ). IsWord y) e (record { low = are.low k h; high = λ b. are.high k h; top = let high = are.high k h in omega (arith, ints) })

none_word : IsWord none
none_word = record { low = omega (arith, ints); high = λ b. absurd (omega (arith, ints)); top = omega (arith, ints) }

next_word : (ts : List ℤ) (z x : ℤ) → AreThresholds ts → IsNext ts z x → IsWord x
next_word ts z x are is = by_one is.one
  where
    by_one : (x ≡ none) ⊎ IsListed ts x → IsWord x
    by_one (inl e) = subst (λ (y : ℤ). IsWord y) (sym e) none_word
    by_one (inr listed) = listed_word ts are x listed

widened_is_word : (ts : List ℤ) (old reached x : ℤ) → AreThresholds ts → IsWord old → IsWidened ts old reached x → IsWord x
widened_is_word ts old reached x are word is = by_lt_z old reached
    (λ (lt : old <ℤ reached). next_word ts reached x are (is.moved lt))
    (λ (le : reached ≤ℤ old). subst (λ (y : ℤ). IsWord y) (sym (is.kept le)) word)

pub widened_matrix : (size : ℕ) (ts a b c : List ℤ) → AreThresholds ts → IsMatrix size a → IsMatrix size b → length c ≡ length a → AreWidened ts a b c → IsMatrix size c
widened_matrix size ts a b c are is other e w = record {
  width = e ∙ is.width;
  words = λ k h. widened_is_word ts (get_or a k (pos 0)) (get_or b k (pos 0)) (get_or c k (pos 0)) are (is.words k (omega arith)) (w.words k (omega arith));
  diagonal = λ i h. (w.words (i * (size + 1) + i) (omega (arith, is.width, place_fits (size + 1) i i h h))).kept (let first = is.diagonal i h in let second = other.diagonal i h in omega (arith, ints)) ∙ is.diagonal i h;
}

-- ---- one next threshold
next_step : (t : ℤ) (ts : List ℤ) (z : ℤ) → IsNext ts z (next_threshold ts z) → IsNext (t ∷ ts) z (next_threshold (t ∷ ts) z)
next_step t ts z is = by_lt_z t z below at_or_above
  where
    listed_more : (x : ℤ) → (x ≡ none) ⊎ IsListed ts x → (x ≡ none) ⊎ IsListed (t ∷ ts) x
    listed_more x (inl e) = inl e
    listed_more x (inr (k, h, e)) = inr (suc k, omega arith, e)

    along : (x : ℤ) → next_threshold (t ∷ ts) z ≡ x → IsNext (t ∷ ts) z x → IsNext (t ∷ ts) z (next_threshold (t ∷ ts) z)
    along x e next = subst (λ (y : ℤ). IsNext (t ∷ ts) z y) (sym e) next

    passed : (x : ℤ) → IsNext ts z x → (z ≤ℤ t → x ≤ℤ t) → IsNext (t ∷ ts) z x
    passed x next first = record { one = listed_more x next.one; above = next.above; least = least }
      where
        least : (k : ℕ) → k < length (t ∷ ts) → z ≤ℤ get_or (t ∷ ts) k (pos 0) → x ≤ℤ get_or (t ∷ ts) k (pos 0)
        least zero h g = first g
        least (suc k) h g = next.least k (omega arith) g

    taken : IsNext ts z (next_threshold ts z) → z ≤ℤ t → t ≤ℤ next_threshold ts z → IsNext (t ∷ ts) z t
    taken next h low = record { one = inr (0, omega arith, refl); above = h; least = least }
      where
        least : (k : ℕ) → k < length (t ∷ ts) → z ≤ℤ get_or (t ∷ ts) k (pos 0) → t ≤ℤ get_or (t ∷ ts) k (pos 0)
        least zero g high = omega (arith, ints)
        least (suc k) g high = let more : next_threshold ts z ≤ℤ get_or ts k (pos 0) = next.least k (omega arith) high in omega (arith, ints)

    below : t <ℤ z → IsNext (t ∷ ts) z (next_threshold (t ∷ ts) z)
    below lt = along (next_threshold ts z) (grind (arith, ints)) (passed (next_threshold ts z) is (λ le. absurd (omega (arith, ints))))

    at_or_above : z ≤ℤ t → IsNext (t ∷ ts) z (next_threshold (t ∷ ts) z)
    at_or_above le = by_lt_z (next_threshold ts z) t
        (λ (lt : next_threshold ts z <ℤ t). along (next_threshold ts z) (grind (arith, ints, clamps)) (passed (next_threshold ts z) is (λ h. omega (arith, ints))))
        (λ (ge : t ≤ℤ next_threshold ts z). along t (grind (arith, ints, clamps)) (taken is le ge))

pub next_of_all : (ts : List ℤ) (z : ℤ) → z ≤ℤ none → IsNext ts z (next_threshold ts z)
next_of_all [] z small = record { one = inl refl; above = small; least = λ k h. absurd (omega arith) }
next_of_all (t ∷ ts) z small = next_step t ts z (next_of_all ts z small)

pub next_is_one : (ts : List ℤ) (z x y : ℤ) → AreThresholds ts → IsNext ts z x → IsNext ts z y → x ≡ y
next_is_one ts z x y are first second = omega (arith, ints, low x y first second, low y x second first)
  where
    low : (u v : ℤ) → IsNext ts z u → IsNext ts z v → u ≤ℤ v
    low u v f s = by_one s.one
      where
        by_one : (v ≡ none) ⊎ IsListed ts v → u ≤ℤ v
        by_one (inl e) = let top = (next_word ts z u are f).top in omega (arith, ints)
        by_one (inr (k, h, e)) = subst (λ (w : ℤ). u ≤ℤ w) e (f.least k h (let high = s.above in omega (arith, ints)))

word_is_one : (ts : List ℤ) (old reached x : ℤ) → AreThresholds ts → IsWord reached → IsWidened ts old reached x → x ≡ widened_word ts old reached
word_is_one ts old reached x are word is = by_lt_z old reached
    (λ (lt : old <ℤ reached).
    let e : x ≡ next_threshold ts reached = next_is_one ts reached x (next_threshold ts reached) are (is.moved lt) (next_of_all ts reached word.top) in
    grind (arith, ints))
    (λ (le : reached ≤ℤ old). let e : x ≡ old = is.kept le in grind (arith, ints))

pub widened_row : (size : ℕ) (ts a b c : List ℤ) → AreThresholds ts → IsMatrix size a → IsMatrix size b → length c ≡ length a → AreWidened ts a b c → c ≡ widened size ts a b
widened_row size ts a b c are is other e w =
    fill_by_all (λ (k : ℕ). widened_word ts (get_or a k (pos 0)) (get_or b k (pos 0))) c ((size + 1) * (size + 1)) (pos 0) (e ∙ is.width)
    (λ k h. word_is_one ts (get_or a k (pos 0)) (get_or b k (pos 0)) (get_or c k (pos 0)) are (other.words k (omega (arith, other.width))) (w.words k (omega (arith, is.width))))

pub widened_along : (ts : List ℤ) (old reached x old2 reached2 x2 : ℤ) → old2 ≡ old → reached2 ≡ reached → x2 ≡ x → IsWidened ts old reached x → IsWidened ts old2 reached2 x2
widened_along ts old reached x old2 reached2 x2 e f g is =
    subst (λ (z : ℤ). IsWidened ts z reached2 x2) (sym e)
    (subst (λ (z : ℤ). IsWidened ts old z x2) (sym f)
    (subst (λ (z : ℤ). IsWidened ts old reached z) (sym g) is))

-- ---- one word more
pub done_more : (P : ℕ → ℤ → Type 0) (m : List ℤ) (k : ℕ) (x : ℤ) → k < length m → ((j : ℕ) → j < k → P j (get_or m j (pos 0))) → P k x → (j : ℕ) → j < k + 1 → P j (get_or (set m k x) j (pos 0))
done_more P m k x lt before here j h =
    elim (cases_eq j k) as (λ _. P j (get_or (set m k x) j (pos 0))) [
      | inl e ↦ subst (λ (i : ℕ). P i (get_or (set m k x) i (pos 0))) (sym e) (subst (λ (y : ℤ). P k y) (sym (get_or-set_same m k x (pos 0) lt)) here)
      | inr ne ↦ subst (λ (y : ℤ). P j y) (sym (get_or-set_other m k j x (pos 0) ne)) (before j (omega arith))
    ]

pub left_more : (old m : List ℤ) (k : ℕ) (x : ℤ) → ((j : ℕ) → k ≤ j → get_or m j (pos 0) ≡ get_or old j (pos 0)) → (j : ℕ) → k + 1 ≤ j → get_or (set m k x) j (pos 0) ≡ get_or old j (pos 0)
left_more old m k x left j h = get_or-set_other m k j x (pos 0) (λ e. omega arith) ∙ left j (omega arith)

-- ---- a bound more
pub min_word : (x y z : ℤ) → z ≡ int_min x y → IsWord x → neg_ℤ largest ≤ℤ y → y ≤ℤ largest → IsWord z
min_word x y z e word low high = record {
  low = let first = word.low in omega (arith, ints, clamps);
  high = λ b. omega (arith, ints, clamps);
  top = omega (arith, ints, clamps);
}

pub added_matrix : (size : ℕ) (m : List ℤ) (row column at : ℕ) (x : ℤ) → IsMatrix size m → row < size + 1 → column < size + 1 → row ≢ column → at ≡ row * (size + 1) + column → IsWord x → IsMatrix size (set m at x)
added_matrix size m row column at x is h g ne e word = record {
  width = length-set m at x ∙ is.width;
  words = λ k lt. elim (cases_eq k at) as (λ _. IsWord (get_or (set m at x) k (pos 0))) [
    | inl same ↦ subst (λ (y : ℤ). IsWord y) (sym (get_or-set_at m at k x (pos 0) same (omega (arith, is.width, place_fits (size + 1) row column h g)))) word
    | inr other ↦ subst (λ (y : ℤ). IsWord y) (sym (get_or-set_other m at k x (pos 0) other)) (is.words k (omega (arith, length-set m at x)))
  ];
  diagonal = λ i lt. word-set_other (size + 1) m row column at x i i g lt e (λ p q. ne (sym p ∙ q)) ∙ is.diagonal i lt;
}

pub stands_added : (n : ℕ) (old new : ℕ → ℕ → ℤ) (row column : ℕ) (most : ℤ) (cells : ℕ → Option ℤ) → row < n → column < n → row ≢ column → most ≤ℤ largest → new row column ≡ int_min (old row column) most → ((i j : ℕ) → i < n → j < n → (i ≡ row → j ≡ column → ⊥) → new i j ≡ old i j) → StandsIn n new cells → StandsIn n old cells × DifferBy most (value_at cells row) (value_at cells column)
stands_added n old new row column most cells h g ne high lowered others stands = (record { bounded = bounded }, differ_more (new row column) most (value_at cells row) (value_at cells column) (omega (arith, ints, clamps)) here)
  where
    here : DifferBy (new row column) (value_at cells row) (value_at cells column)
    here = stands.bounded row column h g ne (omega (arith, ints, clamps))

    bounded : (i j : ℕ) → i < n → j < n → i ≢ j → IsBound (old i j) → DifferBy (old i j) (value_at cells i) (value_at cells j)
    bounded i j k l unequal b = by_row (cases_eq i row) (cases_eq j column)
      where
        other : (i ≡ row → j ≡ column → ⊥) → DifferBy (old i j) (value_at cells i) (value_at cells j)
        other away = let same : new i j ≡ old i j = others i j k l away in subst (λ (y : ℤ). DifferBy y (value_at cells i) (value_at cells j)) same (stands.bounded i j k l unequal (omega (arith, ints)))

        by_row : (i ≡ row) ⊎ (i ≡ row → ⊥) → (j ≡ column) ⊎ (j ≡ column → ⊥) → DifferBy (old i j) (value_at cells i) (value_at cells j)
        by_row (inl e) (inl f) = subst (λ (x : ℕ). DifferBy (old x j) (value_at cells x) (value_at cells j)) (sym e) (subst (λ (y : ℕ). DifferBy (old row y) (value_at cells row) (value_at cells y)) (sym f) (differ_more (new row column) (old row column) (value_at cells row) (value_at cells column) (omega (arith, ints, clamps)) here))
        by_row (inl e) (inr away) = other (λ p q. away q)
        by_row (inr away) f = other (λ p q. away p)

pub stands_with : (n : ℕ) (old new : ℕ → ℕ → ℤ) (row column : ℕ) (most : ℤ) (cells : ℕ → Option ℤ) → row < n → column < n → row ≢ column → new row column ≡ int_min (old row column) most → ((i j : ℕ) → i < n → j < n → (i ≡ row → j ≡ column → ⊥) → new i j ≡ old i j) → StandsIn n old cells → DifferBy most (value_at cells row) (value_at cells column) → StandsIn n new cells
stands_with n old new row column most cells h g ne lowered others stands differ = record { bounded = bounded }
  where
    here : IsBound (new row column) → DifferBy (new row column) (value_at cells row) (value_at cells column)
    here b = by_lt_z most (old row column)
        (λ (lt : most <ℤ old row column). subst (λ (y : ℤ). DifferBy y (value_at cells row) (value_at cells column)) (let e : most ≡ new row column = omega (arith, ints, clamps) in e) differ)
        (λ (le : old row column ≤ℤ most). let e : old row column ≡ new row column = omega (arith, ints, clamps) in subst (λ (y : ℤ). DifferBy y (value_at cells row) (value_at cells column)) e (stands.bounded row column h g ne (omega (arith, ints))))

    bounded : (i j : ℕ) → i < n → j < n → i ≢ j → IsBound (new i j) → DifferBy (new i j) (value_at cells i) (value_at cells j)
    bounded i j k l unequal b = by_row (cases_eq i row) (cases_eq j column)
      where
        other : (i ≡ row → j ≡ column → ⊥) → DifferBy (new i j) (value_at cells i) (value_at cells j)
        other away = let same : new i j ≡ old i j = others i j k l away in subst (λ (y : ℤ). DifferBy y (value_at cells i) (value_at cells j)) (sym same) (stands.bounded i j k l unequal (omega (arith, ints)))

        by_row : (i ≡ row) ⊎ (i ≡ row → ⊥) → (j ≡ column) ⊎ (j ≡ column → ⊥) → DifferBy (new i j) (value_at cells i) (value_at cells j)
        by_row (inl e) (inl f) = subst (λ (x : ℕ). DifferBy (new x j) (value_at cells x) (value_at cells j)) (sym e) (subst (λ (y : ℕ). DifferBy (new row y) (value_at cells row) (value_at cells y)) (sym f) (here (subst (λ (y : ℕ). IsBound (new row y)) f (subst (λ (x : ℕ). IsBound (new x j)) e b))))
        by_row (inl e) (inr away) = other (λ p q. away q)
        by_row (inr away) f = other (λ p q. away p)
