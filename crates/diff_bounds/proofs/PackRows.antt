-- Rows of several packs' matrices are a lattice.
use Rattle.std.proofs.Common.{◌≡◌, ℕ, zero, suc, ◌+◌, ◌≤◌, ◌<◌, ◌&&◌, Bool, true, false, List, [], ◌∷◌, ◌++◌, length, take, drop, get_or, ℤ, pos, ◌≤ℤ◌, ◌<ℤ◌, refl, sym, ap, subst, ◌∙◌, ◌-◌, take_all, length-take-le, take-append-drop, take_at, drop_at, ◌*◌, arith}
use Rattle.std.specs.Prelude.{int_le, Vec}
use Rattle.std.specs.declared.alloc.Global.{Global}
use Rattle.std.specs.List.{AllByRecursion}
use Rattle.std.proofs.lemmas.Int.{ints}
use Rattle.std.proofs.lemmas.List.{ext_get_or}
use Rattle.std.proofs.lemmas.List.FromFn.{get_or-map-range_with_len, length-map-range_with_len}
use Rattle.dom_laws.specs.Lattice.{Lattice, IsElement, IsLattice}
use Rattle.diff_bounds.specs.Order.{IsAtMost}
use Rattle.diff_bounds.specs.Widening.{AreThresholds}
use Rattle.diff_bounds.specs.Lattice.{matrix_of, bottom_word, matrices}
use Rattle.diff_bounds.proofs.MatrixLattice.{lattice_of_matrices}
use Rattle.diff_bounds.specs.PackRows.{words_of, matrices_beside, are_at_most, is_least, packs_lattice, lists_of}
use Rattle.diff_bounds.proofs.Lattices.{no_row, no_words_are_a_lattice, beside_is_a_lattice, arrivals_are_a_lattice}
use Rattle.std.proofs.lemmas.Bool.{and_parts}

-- ---- words

le_is : (x y : ℤ) → int_le x y ≡ true → x ≤ℤ y
le_is x y e = omega (arith, ints, e)

le_self : (x : ℤ) → int_le x x ≡ true
le_self x = grind (arith, ints)

pub words_at_most : (xs ys : List ℤ) → are_at_most xs ys ≡ true → IsAtMost xs ys
words_at_most xs ys e = record { words = each xs ys e }
  where
    each : (xs ys : List ℤ) → are_at_most xs ys ≡ true → (k : ℕ) → k < length xs → get_or xs k (pos 0) ≤ℤ get_or ys k (pos 0)
    each [] ys e k h = absurd (omega (arith, h))
    each (x ∷ xs) [] e k h = absurd cc
    each (x ∷ xs) (y ∷ ys) e zero h = le_is x y (and_parts (int_le x y) (are_at_most xs ys) e).0
    each (x ∷ xs) (y ∷ ys) e (suc k) h = each xs ys (and_parts (int_le x y) (are_at_most xs ys) e).1 k (omega (arith, h))

pub at_most_itself : (xs : List ℤ) → are_at_most xs xs ≡ true
at_most_itself [] = refl
at_most_itself (x ∷ xs) = go (int_le x x) (le_self x) (at_most_itself xs)
  where
    go : (b : Bool) → b ≡ true → are_at_most xs xs ≡ true → (b && are_at_most xs xs) ≡ true
    go true e rest = rest
    go false e rest = absurd cc

-- of rows in two pieces
pub at_most_pieces : (as_ bs cs ds : List ℤ) → length as_ ≡ length cs → are_at_most (as_ ++ bs) (cs ++ ds) ≡ (are_at_most as_ cs && are_at_most bs ds)
at_most_pieces [] bs [] ds e = refl
at_most_pieces [] bs (c ∷ cs) ds e = absurd cc
at_most_pieces (x ∷ as_) bs [] ds e = absurd cc
at_most_pieces (x ∷ as_) bs (c ∷ cs) ds e = go (int_le x c) (at_most_pieces as_ bs cs ds (omega (arith, e)))
  where
    go : (b : Bool) → are_at_most (as_ ++ bs) (cs ++ ds) ≡ (are_at_most as_ cs && are_at_most bs ds)
        → (b && are_at_most (as_ ++ bs) (cs ++ ds)) ≡ ((b && are_at_most as_ cs) && are_at_most bs ds)
    go true same = same
    go false same = refl

-- each word is at most the other
pub at_most_by : (xs ys : List ℤ) → length xs ≤ length ys → IsAtMost xs ys → are_at_most xs ys ≡ true
at_most_by xs ys e h = go xs ys e h.words
  where
    first : (x y : ℤ) (rest : Bool) → x ≤ℤ y → rest ≡ true → (int_le x y && rest) ≡ true
    first x y true h e = grind (arith, ints)
    first x y false h e = absurd cc

    go : (xs ys : List ℤ) → length xs ≤ length ys → ((k : ℕ) → k < length xs → get_or xs k (pos 0) ≤ℤ get_or ys k (pos 0)) → are_at_most xs ys ≡ true
    go [] ys e h = refl
    go (x ∷ xs) [] e h = absurd (omega (arith, e))
    go (x ∷ xs) (y ∷ ys) e h = first x y (are_at_most xs ys) (h 0 (omega arith)) (go xs ys (omega (arith, e)) (λ k lt. h (suc k) (omega (arith, lt))))

-- one word is above the other
pub above_at : (xs ys : List ℤ) (k : ℕ) → k < length xs → get_or ys k (pos 0) <ℤ get_or xs k (pos 0) → are_at_most xs ys ≡ false
above_at xs ys k lt h = go (are_at_most xs ys) refl
  where
    go : (b : Bool) → are_at_most xs ys ≡ b → b ≡ false
    go false e = refl
    go true e = absurd (let u = (words_at_most xs ys e).words k lt in omega (arith, ints, u, h))

-- words that are at most one another
same_words : (xs ys : List ℤ) → length xs ≡ length ys → IsAtMost xs ys → IsAtMost ys xs → xs ≡ ys
same_words xs ys e h k = ext_get_or (pos 0) xs ys e (λ j lt. let u = h.words j lt in let v = k.words j (omega (arith, e, lt)) in omega (arith, ints, u, v))

-- ---- rows

-- a row that lies below the least one is it
abbrev IsAlone : Lattice → Type 0
IsAlone l = (row : List ℤ) → IsElement l row → l.Below row l.least → row ≡ l.least

matrix_alone : (size : ℕ) (ts : List ℤ) → AreThresholds ts → IsAlone (matrices size ts)
matrix_alone size ts are row is h =
    let laws = lattice_of_matrices size ts are in
    same_words row (matrices size ts).least (is.width ∙ sym laws.least_element.width) h (laws.least_below row is)

pub lattice_of_rows : (sizes : List ℕ) (lists : List (List ℤ)) → AllByRecursion AreThresholds lists → IsLattice (matrices_beside sizes lists)
lattice_of_rows [] lists are = no_words_are_a_lattice
lattice_of_rows (n ∷ ns) [] are = no_words_are_a_lattice
lattice_of_rows (n ∷ ns) (ts ∷ lists) are = beside_is_a_lattice (matrices n ts) (matrices_beside ns lists) (lattice_of_matrices n ts are.0) (lattice_of_rows ns lists are.1)

row_alone : (sizes : List ℕ) (lists : List (List ℤ)) → AllByRecursion AreThresholds lists → IsAlone (matrices_beside sizes lists)
row_alone [] lists are row is h = no_row row is.width
row_alone (n ∷ ns) [] are row is h = no_row row is.width
row_alone (n ∷ ns) (ts ∷ lists) are row is h =
    let first = matrices n ts in
    let rest = matrices_beside ns lists in
    let width : length first.least ≡ first.width = (lattice_of_matrices n ts are.0).least_element.width in
    let front : first.Below (take first.width row) first.least = subst (first.Below (take first.width row)) (take_at first.least rest.least first.width width) h.0 in
    let back : rest.Below (drop first.width row) rest.least = subst (rest.Below (drop first.width row)) (drop_at first.least rest.least first.width width) h.1 in
    sym (take-append-drop first.width row)
    ∙ (λ i. matrix_alone n ts are.0 (take first.width row) is.formed.0 front i ++ row_alone ns lists are.1 (drop first.width row) is.formed.1 back i)

-- what the test tells
told_below : (sizes : List ℕ) (lists : List (List ℤ)) → AllByRecursion AreThresholds lists → (row : List ℤ) → IsElement (matrices_beside sizes lists) row
    → are_at_most row (matrices_beside sizes lists).least ≡ true → (matrices_beside sizes lists).Below row (matrices_beside sizes lists).least
told_below [] lists are row is e = tt
told_below (n ∷ ns) [] are row is e = tt
told_below (n ∷ ns) (ts ∷ lists) are row is e =
    let first = matrices n ts in
    let rest = matrices_beside ns lists in
    let width : length first.least ≡ first.width = (lattice_of_matrices n ts are.0).least_element.width in
    let two = and_parts (are_at_most (take first.width row) first.least) (are_at_most (drop first.width row) rest.least)
    (sym (at_most_pieces (take first.width row) (drop first.width row) first.least rest.least (is.formed.0.width ∙ sym width))
    ∙ subst (λ (x : List ℤ). are_at_most x (first.least ++ rest.least) ≡ true) (sym (take-append-drop first.width row)) e) in (
      subst (first.Below (take first.width row)) (sym (take_at first.least rest.least first.width width)) (words_at_most (take first.width row) first.least two.0),
      subst (rest.Below (drop first.width row)) (sym (drop_at first.least rest.least first.width width)) (told_below ns lists are.1 (drop first.width row) is.formed.1 two.1),
    )

pub packs_are_a_lattice : (sizes : List ℕ) (lists : List (List ℤ)) → AllByRecursion AreThresholds lists → IsLattice (packs_lattice sizes lists)
packs_are_a_lattice sizes lists are =
    arrivals_are_a_lattice (is_least sizes lists) (matrices_beside sizes lists) (lattice_of_rows sizes lists are) (at_most_itself (matrices_beside sizes lists).least)
    (λ row is e. row_alone sizes lists are row is (told_below sizes lists are row is e)) (row_alone sizes lists are)

-- ---- for code

module _ (size : ℕ) where
  least_word_at : (k : ℕ) → k < (size + 1) * (size + 1) → get_or (matrix_of size (bottom_word size)) k (pos 0) ≡ bottom_word size k
  least_word_at k h = get_or-map-range_with_len (bottom_word size) 0 ((size + 1) * (size + 1)) k k (pos 0) h (omega arith)

  pub not_least : (m : List ℤ) (k : ℕ) → length m ≡ words_of size → k < length m → bottom_word size k <ℤ get_or m k (pos 0) → false ≡ are_at_most m (matrix_of size (bottom_word size))
  not_least m k e lt h = sym (above_at m (matrix_of size (bottom_word size)) k lt (let same = least_word_at k (omega (arith, e, lt)) in omega (arith, ints, same, h)))

  pub is_the_least : (m : List ℤ) → length m ≡ words_of size → ((k : ℕ) → k < length m → get_or m k (pos 0) ≤ℤ bottom_word size k) → true ≡ are_at_most m (matrix_of size (bottom_word size))
  is_the_least m e h =
      sym (at_most_by m (matrix_of size (bottom_word size)) (omega (arith, e, least_width)) (record { words = λ k lt. let same = least_word_at k (omega (arith, e, lt)) in let u = h k lt in omega (arith, ints, same, u) }))
    where
      least_width : length (matrix_of size (bottom_word size)) ≡ (size + 1) * (size + 1)
      least_width = length-map-range_with_len (bottom_word size) 0 ((size + 1) * (size + 1))

-- the first matrix, and those behind it
pub first_and_rest : (n : ℕ) (ns : List ℕ) (ts : List ℤ) (lists : List (List ℤ)) (row : List ℤ) (a b : Bool) → words_of n ≤ length row
    → a ≡ are_at_most (take (words_of n) row) (matrices n ts).least → b ≡ are_at_most (drop (words_of n) row) (matrices_beside ns lists).least
    → (a && b) ≡ is_least (n ∷ ns) (ts ∷ lists) row
first_and_rest n ns ts lists row a b within e f =
    (λ i. e i && f i)
    ∙ sym (at_most_pieces (take (words_of n) row) (drop (words_of n) row) (matrices n ts).least (matrices_beside ns lists).least (length-take-le (words_of n) row within ∙ sym (length-map-range_with_len (bottom_word n) 0 (words_of n))))
    ∙ (λ i. are_at_most (take-append-drop (words_of n) row i) ((matrices n ts).least ++ (matrices_beside ns lists).least))

-- behind the first element
rest_is : {A : Type 0} (x : A) (xs : List A) → take (length (x ∷ xs) - 1) (drop 1 (x ∷ xs)) ≡ xs
rest_is x xs = take_all (length (x ∷ xs) - 1) xs (omega arith)

pub least_split : (sizes : List ℕ) (ts : List (Vec ℤ Global)) (row front back : List ℤ) (a b : Bool) → 1 ≤ length sizes → 1 ≤ length ts
    → length row ≡ (matrices_beside sizes (lists_of ts)).width → front ≡ take (words_of (get_or sizes 0 0)) row → back ≡ drop (words_of (get_or sizes 0 0)) row
    → a ≡ are_at_most front (matrix_of (get_or sizes 0 0) (bottom_word (get_or sizes 0 0)))
    → b ≡ is_least (take (length sizes - 1) (drop 1 sizes)) (lists_of (take (length ts - 1) (drop 1 ts))) back
    → (a && b) ≡ is_least sizes (lists_of ts) row
least_split [] ts row front back a b some more within e f g h = absurd (omega (arith, some))
least_split (n ∷ ns) [] row front back a b some more within e f g h = absurd (omega (arith, more))
least_split (n ∷ ns) (t ∷ ts) row front back a b some more within e f g h =
    first_and_rest n ns t.items (lists_of ts) row a b (omega (arith, within)) (g ∙ ap (λ (x : List ℤ). are_at_most x (matrix_of n (bottom_word n))) e)
    (h ∙ (λ i. is_least (rest_is n ns i) (lists_of (rest_is t ts i)) (f i)))
