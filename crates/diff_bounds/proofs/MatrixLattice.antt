-- The matrices of one size are a lattice, and each grows only so often.
use Rattle.std.proofs.Common.{◌≡◌, ℕ, zero, suc, ◌+◌, ◌*◌, ◌/◌, ◌%◌, ◌<◌, ◌≤◌, Bool, true, false, cond, eqb, List, [], ◌∷◌, length, get_or, ℤ, pos, neg_ℤ, ◌≤ℤ◌, ◌<ℤ◌, ◌⊎◌, inl, inr, refl, sym, ap, subst, ◌∙◌, arith}
use Rattle.std.specs.Int.{int_max}
use Rattle.std.proofs.lemmas.Int.{ints, by_lt_z}
use Rattle.std.proofs.lemmas.Bool.{cases_eq, cases_lt, eq-eqb, ne_eqb}
use Rattle.std.proofs.lemmas.Nat.{div-mul-add, mod-mul-add, div-add-mod', mod_below, div_below}
use Rattle.std.proofs.lemmas.List.FromFn.{fill_by_all, get_or-map-range_with_len, length-map-range_with_len}
use Rattle.dom_laws.specs.Lattice.{IsLattice}
use Rattle.diff_bounds.specs.Matrix.{word, none, largest, IsBound, IsWord, IsMatrix}
use Rattle.diff_bounds.specs.Order.{IsAtMost, IsJoin}
use Rattle.diff_bounds.specs.Widening.{AreThresholds, IsListed, IsNext, IsWidened, AreWidened}
use Rattle.diff_bounds.specs.Lattice.{matrix_of, bottom_word, joined, next_threshold, widened_word, widened, above, room, sum_below, room_at, total_room, height_of, matrices}
use Rattle.diff_bounds.proofs.Places.{place_fits}
use Rattle.diff_bounds.proofs.WordByWord.{join_is_least, join_matrix, next_of_all, widened_matrix}

-- ---- words of a matrix from a function
matrix_word : (size : ℕ) (f : ℕ → ℤ) (k : ℕ) → k < (size + 1) * (size + 1) → get_or (matrix_of size f) k (pos 0) ≡ f k
matrix_word size f k h = get_or-map-range_with_len f 0 ((size + 1) * (size + 1)) k k (pos 0) h (omega arith)

matrix_width : (size : ℕ) (f : ℕ → ℤ) → length (matrix_of size f) ≡ (size + 1) * (size + 1)
matrix_width size f = length-map-range_with_len f 0 ((size + 1) * (size + 1))

-- ---- the least
bottom_at : (i j : ℕ) → i ≡ j → cond (eqb i j) (pos 0) (neg_ℤ largest) ≡ pos 0
bottom_at i j e = rw (eq-eqb i j e) refl

bottom_off : (i j : ℕ) → (i ≡ j → ⊥) → cond (eqb i j) (pos 0) (neg_ℤ largest) ≡ neg_ℤ largest
bottom_off i j ne = rw (ne_eqb i j ne) refl

bottom_is_word : (size k : ℕ) → IsWord (bottom_word size k)
bottom_is_word size k = by_bool (eqb (k / (size + 1)) (k % (size + 1)))
  where
    by_bool : (b : Bool) → IsWord (cond b (pos 0) (neg_ℤ largest))
    by_bool true = record { low = omega (arith, ints); high = λ b. omega (arith, ints); top = omega (arith, ints) }
    by_bool false = record { low = omega (arith, ints); high = λ b. omega (arith, ints); top = omega (arith, ints) }

bottom_matrix : (size : ℕ) → IsMatrix size (matrix_of size (bottom_word size))
bottom_matrix size = record {
  width = matrix_width size (bottom_word size);
  words = λ k h. subst (λ (x : ℤ). IsWord x) (sym (matrix_word size (bottom_word size) k (omega (arith, matrix_width size (bottom_word size))))) (bottom_is_word size k);
  diagonal = λ i h. matrix_word size (bottom_word size) (i * (size + 1) + i) (place_fits (size + 1) i i h h) ∙ bottom_at ((i * (size + 1) + i) / (size + 1)) ((i * (size + 1) + i) % (size + 1)) (div-mul-add i (size + 1) i h ∙ sym (mod-mul-add i (size + 1) i h));
}

on_diagonal : (size k : ℕ) (m : List ℤ) → IsMatrix size m → k < (size + 1) * (size + 1) → k / (size + 1) ≡ k % (size + 1) → get_or m k (pos 0) ≡ pos 0
on_diagonal size k m is h e =
    let i = k % (size + 1) in
    let lt : i < size + 1 = mod_below k (size + 1) (omega arith) in
    let place : i * (size + 1) + i ≡ k = ap (λ (q : ℕ). q * (size + 1) + i) (sym e) ∙ div-add-mod' k (size + 1) in
    subst (λ (q : ℕ). get_or m q (pos 0) ≡ pos 0) place (is.diagonal i lt)

bottom_below : (size : ℕ) (m : List ℤ) → IsMatrix size m → IsAtMost (matrix_of size (bottom_word size)) m
bottom_below size m is = record { words = λ k h. below k (omega (arith, matrix_width size (bottom_word size))) }
  where
    below : (k : ℕ) → k < (size + 1) * (size + 1) → get_or (matrix_of size (bottom_word size)) k (pos 0) ≤ℤ get_or m k (pos 0)
    below k h = elim (cases_eq (k / (size + 1)) (k % (size + 1))) as (λ _. get_or (matrix_of size (bottom_word size)) k (pos 0) ≤ℤ get_or m k (pos 0)) [
      | inl e ↦
          let least = matrix_word size (bottom_word size) k h ∙ bottom_at (k / (size + 1)) (k % (size + 1)) e in
          let zero_word = on_diagonal size k m is h e in
          omega (arith, ints, least, zero_word)
      | inr ne ↦
          let least = matrix_word size (bottom_word size) k h ∙ bottom_off (k / (size + 1)) (k % (size + 1)) ne in
          let low = (is.words k (omega (arith, is.width))).low in
          omega (arith, ints, least, low)
    ]

-- ---- joins and widening
is_join : (size : ℕ) (a b : List ℤ) → length a ≡ (size + 1) * (size + 1) → IsJoin a b (joined size a b)
is_join size a b e = record { words = λ k h. matrix_word size (λ (j : ℕ). int_max (get_or a j (pos 0)) (get_or b j (pos 0))) k (omega arith) }

joined_width : (size : ℕ) (a b : List ℤ) → length (joined size a b) ≡ (size + 1) * (size + 1)
joined_width size a b = matrix_width size (λ (j : ℕ). int_max (get_or a j (pos 0)) (get_or b j (pos 0)))

word_widened : (ts : List ℤ) (old reached : ℤ) → reached ≤ℤ none → IsWidened ts old reached (widened_word ts old reached)
word_widened ts old reached small = record {
  kept = λ le. grind (arith, ints);
  moved = λ lt. subst (λ (x : ℤ). IsNext ts reached x) (let e : next_threshold ts reached ≡ widened_word ts old reached = grind (arith, ints) in e) (next_of_all ts reached small);
}

widened_width : (size : ℕ) (ts a b : List ℤ) → length (widened size ts a b) ≡ (size + 1) * (size + 1)
widened_width size ts a b = matrix_width size (λ (j : ℕ). widened_word ts (get_or a j (pos 0)) (get_or b j (pos 0)))

widened_at : (size : ℕ) (ts a b : List ℤ) (k : ℕ) → k < (size + 1) * (size + 1) → get_or (widened size ts a b) k (pos 0) ≡ widened_word ts (get_or a k (pos 0)) (get_or b k (pos 0))
widened_at size ts a b k h = matrix_word size (λ (j : ℕ). widened_word ts (get_or a j (pos 0)) (get_or b j (pos 0))) k h

is_widened : (size : ℕ) (ts a b : List ℤ) → length a ≡ (size + 1) * (size + 1) → IsMatrix size b → AreWidened ts a b (widened size ts a b)
is_widened size ts a b e other = record {
  words = λ k h. subst (λ (x : ℤ). IsWidened ts (get_or a k (pos 0)) (get_or b k (pos 0)) x) (sym (widened_at size ts a b k (omega arith)))
      (word_widened ts (get_or a k (pos 0)) (get_or b k (pos 0)) (other.words k (omega (arith, other.width))).top);
}

widened_up : (ts : List ℤ) (old reached x : ℤ) → IsWidened ts old reached x → (old ≤ℤ x) × (reached ≤ℤ x)
widened_up ts old reached x is = by_lt_z old reached
    (λ (lt : old <ℤ reached). let high = (is.moved lt).above in (omega (arith, ints), high))
    (λ (le : reached ≤ℤ old). let same : x ≡ old = is.kept le in (omega (arith, ints), omega (arith, ints)))

-- ---- room

above_less : (ts : List ℤ) (x y : ℤ) → x ≤ℤ y → above ts y ≤ above ts x
above_less [] x y h = omega arith
above_less (t ∷ ts) x y h = by_lt_z y t
    (λ (lt : y <ℤ t). let rest = above_less ts x y h in grind (arith, ints))
    (λ (le : t ≤ℤ y). let rest = above_less ts x y h in grind (arith, ints))

above_small : (ts : List ℤ) (x : ℤ) → above ts x ≤ length ts
above_small [] x = omega arith
above_small (t ∷ ts) x = let rest = above_small ts x in by_lt_z x t (λ (lt : x <ℤ t). grind (arith, ints)) (λ (le : t ≤ℤ x). grind (arith, ints))

above_falls : (ts : List ℤ) (x : ℤ) (k : ℕ) → k < length ts → x <ℤ get_or ts k (pos 0) → above ts (get_or ts k (pos 0)) + 1 ≤ above ts x
above_falls [] x k h lt = absurd (omega arith)
above_falls (t ∷ ts) x zero h lt = let rest : above ts t ≤ above ts x = above_less ts x t (omega (arith, ints)) in grind (arith, ints)
above_falls (t ∷ ts) x (suc k) h lt =
    let y = get_or ts k (pos 0) in
    let rest : above ts y + 1 ≤ above ts x = above_falls ts x k (omega arith) lt in
    by_lt_z y t (λ (less : y <ℤ t). grind (arith, ints)) (λ (le : t ≤ℤ y). grind (arith, ints))

room_small : (ts : List ℤ) (x : ℤ) → room ts x ≤ length ts + 1
room_small ts x = let few = above_small ts x in by_lt_z x none (λ (lt : x <ℤ none). grind (arith, ints)) (λ (le : none ≤ℤ x). grind (arith, ints))

room_of_number : (ts : List ℤ) (x : ℤ) → IsBound x → room ts x ≡ above ts x + 1
room_of_number ts x lt = grind (arith, ints)

room_of_none : (ts : List ℤ) (x : ℤ) → x ≡ none → room ts x ≡ 0
room_of_none ts x e = rw e refl

-- a word that grows has less room
room_falls : (ts : List ℤ) (old reached x : ℤ) → AreThresholds ts → reached ≤ℤ none → old <ℤ reached → IsNext ts reached x → room ts x < room ts old
room_falls ts old reached x are small lt is = by_one is.one
  where
    first : room ts old ≡ above ts old + 1
    first = room_of_number ts old (omega (arith, ints))

    by_one : (x ≡ none) ⊎ IsListed ts x → room ts x < room ts old
    by_one (inl e) = omega (arith, room_of_none ts x e, first)
    by_one (inr (k, h, e)) = subst (λ (y : ℤ). room ts y < room ts old) e
        (let high = are.high k h in
        let up : reached ≤ℤ get_or ts k (pos 0) = subst (λ (y : ℤ). reached ≤ℤ y) (sym e) is.above in
        let last = room_of_number ts (get_or ts k (pos 0)) (omega (arith, ints)) in
        let falls = above_falls ts old k h (omega (arith, ints)) in
        omega (arith, first, last, falls))

room_less : (ts : List ℤ) (old reached x : ℤ) → AreThresholds ts → reached ≤ℤ none → IsWidened ts old reached x → room ts x ≤ room ts old
room_less ts old reached x are small is = by_lt_z old reached
    (λ (lt : old <ℤ reached). let falls = room_falls ts old reached x are small lt (is.moved lt) in omega (arith, falls))
    (λ (le : reached ≤ℤ old). omega (arith, ap (room ts) (is.kept le)))

-- a word with as much room hasn't grown
room_same : (ts : List ℤ) (old reached x : ℤ) → AreThresholds ts → reached ≤ℤ none → IsWidened ts old reached x → room ts old ≤ room ts x → reached ≤ℤ old
room_same ts old reached x are small is same = by_lt_z old reached
    (λ (lt : old <ℤ reached). absurd (let falls = room_falls ts old reached x are small lt (is.moved lt) in omega (arith, falls, same)))
    (λ (le : reached ≤ℤ old). le)

-- ---- sums of room
sum_less : (n : ℕ) (f g : ℕ → ℕ) → ((k : ℕ) → k < n → f k ≤ g k) → sum_below n f ≤ sum_below n g
sum_less zero f g h = omega arith
sum_less (suc n) f g h = omega (arith, h n (omega arith), sum_less n f g (λ k lt. h k (omega arith)))

sum_same : (n : ℕ) (f g : ℕ → ℕ) → ((k : ℕ) → k < n → f k ≤ g k) → sum_below n g ≤ sum_below n f → (k : ℕ) → k < n → g k ≤ f k
sum_same zero f g h same k lt = absurd (omega arith)
sum_same (suc n) f g h same k lt =
    let less : sum_below n f ≤ sum_below n g = sum_less n f g (λ j below. h j (omega arith)) in
    let last : f n ≤ g n = h n (omega arith) in
    elim (cases_eq k n) as (λ _. g k ≤ f k) [
      | inl e ↦ subst (λ (j : ℕ). g j ≤ f j) (sym e) (omega (arith, less, last, same))
      | inr ne ↦ sum_same n f g (λ j below. h j (omega arith)) (omega (arith, less, last, same)) k (omega arith)
    ]

sum_within : (n c : ℕ) (f : ℕ → ℕ) → ((k : ℕ) → k < n → f k ≤ c) → sum_below n f ≤ n * c
sum_within zero c f h = omega arith
sum_within (suc n) c f h = let rest = sum_within n c f (λ k lt. h k (omega arith)) in let last = h n (omega arith) in omega (arith, rest, last)

-- all but one
sum_but_one : (n c i : ℕ) (f : ℕ → ℕ) → ((k : ℕ) → k < n → f k ≤ c) → i < n → f i ≡ 0 → sum_below n f + c ≤ n * c
sum_but_one zero c i f h lt e = absurd (omega arith)
sum_but_one (suc n) c i f h lt e =
    elim (cases_eq n i) as (λ _. sum_below (suc n) f + c ≤ suc n * c) [
      | inl same ↦ let rest = sum_within n c f (λ k below. h k (omega arith)) in let last : f n ≡ 0 = subst (λ (k : ℕ). f k ≡ 0) (sym same) e in omega (arith, rest, last)
      | inr ne ↦ let rest = sum_but_one n c i f (λ k below. h k (omega arith)) (omega arith) e in let last = h n (omega arith) in omega (arith, rest, last)
    ]

room_at_diagonal : (n : ℕ) (ts m : List ℤ) (i j : ℕ) → i ≡ j → room_at n ts m i j ≡ 0
room_at_diagonal n ts m i j e = rw (eq-eqb i j e) refl

room_at_other : (n : ℕ) (ts m : List ℤ) (i j : ℕ) → (i ≡ j → ⊥) → room_at n ts m i j ≡ room ts (word n m i j)
room_at_other n ts m i j ne = rw (ne_eqb i j ne) refl

room_at_small : (n : ℕ) (ts m : List ℤ) (i j : ℕ) → room_at n ts m i j ≤ length ts + 1
room_at_small n ts m i j =
    elim (cases_eq i j) as (λ _. room_at n ts m i j ≤ length ts + 1) [
      | inl e ↦ omega (arith, room_at_diagonal n ts m i j e)
      | inr ne ↦ omega (arith, room_at_other n ts m i j ne, room_small ts (word n m i j))
    ]

row_room : (size : ℕ) (ts m : List ℤ) (i : ℕ) → i < size + 1 → sum_below (size + 1) (room_at (size + 1) ts m i) ≤ size * (length ts + 1)
row_room size ts m i h =
    let all = sum_but_one (size + 1) (length ts + 1) i (room_at (size + 1) ts m i) (λ j lt. room_at_small (size + 1) ts m i j) h (room_at_diagonal (size + 1) ts m i i refl) in
    omega (arith, all)

rank_small : (size : ℕ) (ts m : List ℤ) → total_room (size + 1) ts m ≤ height_of size (length ts)
rank_small size ts m =
    let rows = sum_within (size + 1) (size * (length ts + 1)) (λ (i : ℕ). sum_below (size + 1) (room_at (size + 1) ts m i)) (row_room size ts m) in
    let turned : (size + 1) * (size * (length ts + 1)) ≡ height_of size (length ts) = omega arith in
    omega (arith, rows, turned)

-- ---- what grows falls in rank
word_at_place : (size : ℕ) (ts a b : List ℤ) → IsMatrix size a → IsMatrix size b → (i j : ℕ) → i < size + 1 → j < size + 1 → IsWidened ts (word (size + 1) a i j) (word (size + 1) b i j) (word (size + 1) (widened size ts a b) i j)
word_at_place size ts a b is other i j h g = (is_widened size ts a b is.width other).words (i * (size + 1) + j) (omega (arith, is.width, place_fits (size + 1) i j h g))

top_at_place : (size : ℕ) (m : List ℤ) → IsMatrix size m → (i j : ℕ) → i < size + 1 → j < size + 1 → word (size + 1) m i j ≤ℤ none
top_at_place size m is i j h g = (is.words (i * (size + 1) + j) (omega (arith, is.width, place_fits (size + 1) i j h g))).top

room_at_less : (size : ℕ) (ts a b : List ℤ) → AreThresholds ts → IsMatrix size a → IsMatrix size b → (i j : ℕ) → i < size + 1 → j < size + 1 → room_at (size + 1) ts (widened size ts a b) i j ≤ room_at (size + 1) ts a i j
room_at_less size ts a b are is other i j h g =
    let n = size + 1 in
    let w = widened size ts a b in
    elim (cases_eq i j) as (λ _. room_at n ts w i j ≤ room_at n ts a i j) [
      | inl e ↦ omega (arith, room_at_diagonal n ts w i j e)
      | inr ne ↦ omega (arith, room_at_other n ts w i j ne, room_at_other n ts a i j ne, room_less ts (word n a i j) (word n b i j) (word n w i j) are (top_at_place size b other i j h g) (word_at_place size ts a b is other i j h g))
    ]

total_same : (size : ℕ) (ts a b : List ℤ) → AreThresholds ts → IsMatrix size a → IsMatrix size b → total_room (size + 1) ts a ≤ total_room (size + 1) ts (widened size ts a b) → (i j : ℕ) → i < size + 1 → j < size + 1 → word (size + 1) b i j ≤ℤ word (size + 1) a i j
total_same size ts a b are is other same i j h g = by_place (cases_eq i j)
  where
    row : ℕ → ℕ
    row r = sum_below (size + 1) (room_at (size + 1) ts (widened size ts a b) r)

    row_less : (r : ℕ) → r < size + 1 → row r ≤ sum_below (size + 1) (room_at (size + 1) ts a r)
    row_less r lt = sum_less (size + 1) (room_at (size + 1) ts (widened size ts a b) r) (room_at (size + 1) ts a r) (λ c below. room_at_less size ts a b are is other r c lt below)

    row_same : sum_below (size + 1) (room_at (size + 1) ts a i) ≤ row i
    row_same = sum_same (size + 1) row (λ (r : ℕ). sum_below (size + 1) (room_at (size + 1) ts a r)) row_less same i h

    word_same : room_at (size + 1) ts a i j ≤ room_at (size + 1) ts (widened size ts a b) i j
    word_same = sum_same (size + 1) (room_at (size + 1) ts (widened size ts a b) i) (room_at (size + 1) ts a i) (λ c below. room_at_less size ts a b are is other i c h below) row_same j g

    by_place : (i ≡ j) ⊎ (i ≡ j → ⊥) → word (size + 1) b i j ≤ℤ word (size + 1) a i j
    by_place (inl e) = subst (λ (c : ℕ). word (size + 1) b i c ≤ℤ word (size + 1) a i c) e (let first = is.diagonal i h in let second = other.diagonal i h in omega (arith, ints))
    by_place (inr ne) =
        room_same ts (word (size + 1) a i j) (word (size + 1) b i j) (word (size + 1) (widened size ts a b) i j) are (top_at_place size b other i j h g) (word_at_place size ts a b is other i j h g)
        (omega (arith, word_same, room_at_other (size + 1) ts a i j ne, room_at_other (size + 1) ts (widened size ts a b) i j ne))

-- words in rows and columns are all words
pub by_places : (size : ℕ) (a b : List ℤ) → length b ≡ (size + 1) * (size + 1) → ((i j : ℕ) → i < size + 1 → j < size + 1 → word (size + 1) b i j ≤ℤ word (size + 1) a i j) → IsAtMost b a
by_places size a b e each = record {
  words = λ k h.
      subst (λ (p : ℕ). get_or b p (pos 0) ≤ℤ get_or a p (pos 0)) (div-add-mod' k (size + 1))
      (each (k / (size + 1)) (k % (size + 1)) (div_below k (size + 1) (size + 1) (omega arith) (omega (arith, e))) (mod_below k (size + 1) (omega arith)));
}

falls : (size : ℕ) (ts a b : List ℤ) → AreThresholds ts → IsMatrix size a → IsMatrix size b → (IsAtMost b a → ⊥) → total_room (size + 1) ts (widened size ts a b) < total_room (size + 1) ts a
falls size ts a b are is other grows =
    elim (cases_lt (total_room (size + 1) ts (widened size ts a b)) (total_room (size + 1) ts a)) as (λ _. total_room (size + 1) ts (widened size ts a b) < total_room (size + 1) ts a) [
      | inl lt ↦ lt
      | inr same ↦ absurd (grows (by_places size a b other.width (total_same size ts a b are is other same)))
    ]

kept_whole : (size : ℕ) (ts a b : List ℤ) → IsMatrix size a → IsAtMost b a → length b ≡ (size + 1) * (size + 1) → widened size ts a b ≡ a
kept_whole size ts a b is below e = sym (fill_by_all (λ (k : ℕ). widened_word ts (get_or a k (pos 0)) (get_or b k (pos 0))) a ((size + 1) * (size + 1)) (pos 0) is.width
    (λ k h. kept_word (get_or a k (pos 0)) (get_or b k (pos 0)) (below.words k (omega (arith, e)))))
  where
    kept_word : (old reached : ℤ) → reached ≤ℤ old → old ≡ widened_word ts old reached
    kept_word old reached le = grind (arith, ints)

pub lattice_of_matrices : (size : ℕ) (ts : List ℤ) → AreThresholds ts → IsLattice (matrices size ts)
lattice_of_matrices size ts are = record {
  reflexive = λ a e. record { words = λ k h. omega (arith, ints) };
  transitive = λ a b c e f g h k. record { words = λ j lt. let first = h.words j lt in let second = k.words j (omega (arith, e.width, f.width)) in omega (arith, ints) };
  least_element = record { width = matrix_width size (bottom_word size); formed = bottom_matrix size };
  least_below = λ a e. bottom_below size a e.formed;
  join_element = λ a b e f. record {
    width = joined_width size a b;
    formed = join_matrix size a b (joined size a b) e.formed f.formed (joined_width size a b ∙ sym e.width) (is_join size a b e.width);
  };
  join_left = λ a b e f. (join_is_least a b (joined size a b) (f.width ∙ sym e.width) (joined_width size a b ∙ sym e.width) (is_join size a b e.width)).left;
  join_right = λ a b e f. (join_is_least a b (joined size a b) (f.width ∙ sym e.width) (joined_width size a b ∙ sym e.width) (is_join size a b e.width)).right;
  join_least = λ a b c e f g h k. (join_is_least a b (joined size a b) (f.width ∙ sym e.width) (joined_width size a b ∙ sym e.width) (is_join size a b e.width)).least c h k;
  widen_element = λ a b e f. record {
    width = widened_width size ts a b;
    formed = widened_matrix size ts a b (widened size ts a b) are e.formed f.formed (widened_width size ts a b ∙ sym e.width) (is_widened size ts a b e.width f.formed);
  };
  widen_left = λ a b e f. record { words = λ k h. (widened_up ts (get_or a k (pos 0)) (get_or b k (pos 0)) (get_or (widened size ts a b) k (pos 0)) ((is_widened size ts a b e.width f.formed).words k h)).0 };
  widen_right = λ a b e f. record { words = λ k h. (widened_up ts (get_or a k (pos 0)) (get_or b k (pos 0)) (get_or (widened size ts a b) k (pos 0)) ((is_widened size ts a b e.width f.formed).words k (omega (arith, e.width, f.width)))).1 };
  widen_keeps = λ a b e f h. kept_whole size ts a b e.formed h f.width;
  widen_falls = λ a b e f h. falls size ts a b are e.formed f.formed h;
  rank_within = λ a e. rank_small size ts a;
}
