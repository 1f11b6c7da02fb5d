-- Where a head's words are thresholds or none, widening stays below them.
use Rattle.std.proofs.Common.{◌≡◌, ◌⊎◌, inl, inr, ℕ, ◌+◌, ◌*◌, ◌/◌, ◌%◌, ◌<◌, List, [], ◌∷◌, ◌++◌, length, take, drop, ℤ, pos, ◌≤ℤ◌, ◌<ℤ◌, int_le, int_lt, if◌then◌else◌, Bool, true, false, refl, sym, ap, subst, ◌∙◌, take_at, drop_at, arith}
use Rattle.std.specs.Prelude.{slice_index_or}
use Rattle.std.specs.Int.{int_min}
use Rattle.std.specs.List.{AllByRecursion}
use Rattle.std.proofs.lemmas.Int.{ints, clamps}
use Rattle.std.proofs.lemmas.Bool.{cases_eq}
use Rattle.std.proofs.lemmas.Nat.{div-add-mod', mod_below}
use Rattle.dom_laws.specs.Lattice.{Lattice, IsElement, IsLattice}
use Rattle.dom_laws.specs.Flow.{Flow, IsHead, HeadsAreFixed}
use Rattle.diff_bounds.specs.Matrix.{none, IsMatrix}
use Rattle.diff_bounds.specs.Order.{IsAtMost}
use Rattle.diff_bounds.specs.Widening.{AreThresholds}
use Rattle.diff_bounds.specs.Lattice.{next_threshold, widened_word, widened}
use Rattle.diff_bounds.proofs.WordByWord.{next_of_all}
use Rattle.diff_bounds.specs.PackRows.{words_of, matrices_in, matrices_beside, is_least, packs_lattice}
use Rattle.diff_bounds.proofs.PackRows.{packs_are_a_lattice}
use Rattle.cert_text.proofs.MatrixFilling.{matrix_word, matrix_width}
use Rattle.analyse_core.specs.Assignments.{IsListedWord, HasListedWords, HaveListedWords, IsListedRow}

-- ---- one word

next_at_most : (ts : List ℤ) (z : ℤ) → next_threshold ts z ≤ℤ none
next_at_most [] z = omega (arith, ints)
next_at_most (t ∷ ts) z = by_test (int_le z t) (next_at_most ts z)
  where
    by_test : (b : Bool) → next_threshold ts z ≤ℤ none → (if b then int_min t (next_threshold ts z) else next_threshold ts z) ≤ℤ none
    by_test true h = omega (arith, ints, clamps, h)
    by_test false h = h

next_fixed : (ts : List ℤ) (z end : ℤ) → z ≤ℤ none → IsListedWord ts end → z ≤ℤ end → next_threshold ts z ≤ℤ end
next_fixed ts z end small (inl e) h = let most = next_at_most ts z in omega (arith, ints, e, most)
next_fixed ts z end small (inr (k, l, e)) h =
    subst (λ (y : ℤ). next_threshold ts z ≤ℤ y) e ((next_of_all ts z small).least k l (subst (λ (y : ℤ). z ≤ℤ y) (sym e) h))

word_fixed : (ts : List ℤ) (old reached end : ℤ) → reached ≤ℤ none → IsListedWord ts end → old ≤ℤ end → reached ≤ℤ end →
    widened_word ts old reached ≤ℤ end
word_fixed ts old reached end small listed h k = by_test (int_lt old reached)
  where
    by_test : (b : Bool) → (if b then next_threshold ts reached else old) ≤ℤ end
    by_test true = next_fixed ts reached end small listed k
    by_test false = h

same_fixed : (ts : List ℤ) (old reached : ℤ) → old ≡ reached → widened_word ts old reached ≡ old
same_fixed ts old reached e =
    let test : int_lt old reached ≡ false = grind (arith, ints, e) in
    ap (λ (b : Bool). if b then next_threshold ts reached else old) test

-- ---- one matrix

-- words on the diagonal are 0, places counted row by row
on_diagonal : (size k : ℕ) (m : List ℤ) → IsMatrix size m → k < words_of size → k / (size + 1) ≡ k % (size + 1) → slice_index_or m k (pos 0) ≡ pos 0
on_diagonal size k m is h e =
    let i = k % (size + 1) in
    let low : i < size + 1 = mod_below k (size + 1) (omega arith) in
    let place : i * (size + 1) + i ≡ k = ap (λ (q : ℕ). q * (size + 1) + i) (sym e) ∙ div-add-mod' k (size + 1) in
    subst (λ (q : ℕ). slice_index_or m q (pos 0) ≡ pos 0) place (is.diagonal i low)

module _ (size : ℕ) (ts a b c : List ℤ) (is : IsMatrix size a) (other : IsMatrix size b) (more : IsMatrix size c) (listed : HasListedWords size ts c)
    (below : IsAtMost a c) (also : IsAtMost b c) where
  abbrev at : List ℤ → ℕ → ℤ
  at m k = slice_index_or m k (pos 0)

  fixed_at : (k : ℕ) → k < words_of size → widened_word ts (at a k) (at b k) ≤ℤ at c k
  fixed_at k h = elim (cases_eq (k / (size + 1)) (k % (size + 1))) as (λ _. widened_word ts (at a k) (at b k) ≤ℤ at c k) [
    | inl same ↦
        let zero_old = on_diagonal size k a is h same in
        let zero_reached = on_diagonal size k b other h same in
        subst (λ (x : ℤ). x ≤ℤ at c k) (sym (same_fixed ts (at a k) (at b k) (zero_old ∙ sym zero_reached)))
        (below.words k (omega (arith, h, is.width)))
    | inr apart ↦
        word_fixed ts (at a k) (at b k) (at c k) (other.words k (omega (arith, h, other.width))).top
        (listed.each k (omega (arith, h, more.width)) apart) (below.words k (omega (arith, h, is.width)))
        (also.words k (omega (arith, h, other.width)))
  ]

  matrix_fixed : IsAtMost (widened size ts a b) c
  matrix_fixed = record {
    words = λ k h.
        let word : ℕ → ℤ = λ j. widened_word ts (at a j) (at b j) in
        let within : k < words_of size = let wide = matrix_width size word in omega (arith, h, wide) in
        subst (λ (x : ℤ). x ≤ℤ at c k) (sym (matrix_word size word k within)) (fixed_at k within);
  }

-- ---- rows

rows_fixed : (sizes : List ℕ) (lists : List (List ℤ)) (a b c : List ℤ) → IsElement (matrices_beside sizes lists) a →
    IsElement (matrices_beside sizes lists) b → IsElement (matrices_beside sizes lists) c → HaveListedWords sizes lists (matrices_in sizes c) →
    (matrices_beside sizes lists).Below a c → (matrices_beside sizes lists).Below b c →
    (matrices_beside sizes lists).Below ((matrices_beside sizes lists).widen a b) c
rows_fixed [] lists a b c is other more listed below also = tt
rows_fixed (n ∷ ns) [] a b c is other more listed below also = tt
rows_fixed (n ∷ ns) (ts ∷ lists) a b c is other more listed below also =
    let w = words_of n in
    let rest = matrices_beside ns lists in
    let here = widened n ts (take w a) (take w b) in
    let behind = rest.widen (drop w a) (drop w b) in
    let wide : length here ≡ w = matrix_width n (λ k. widened_word ts (slice_index_or (take w a) k (pos 0)) (slice_index_or (take w b) k (pos 0))) in (
      subst (λ (m : List ℤ). IsAtMost m (take w c)) (sym (take_at here behind w wide))
          (matrix_fixed n ts (take w a) (take w b) (take w c) is.formed.0.formed other.formed.0.formed more.formed.0.formed listed.0 below.0 also.0),
      subst (λ (m : List ℤ). rest.Below m (drop w c)) (sym (drop_at here behind w wide))
          (rows_fixed ns lists (drop w a) (drop w b) (drop w c) is.formed.1 other.formed.1 more.formed.1 listed.1 below.1 also.1),
    )

-- ---- heads

module _ (sizes : List ℕ) (lists : List (List ℤ)) (ends : AllByRecursion AreThresholds lists) where
  abbrev lattice : Lattice
  lattice = packs_lattice sizes lists

  laws : IsLattice lattice
  laws = packs_are_a_lattice sizes lists ends

  -- below the row that no run comes to nothing grows
  least_fixed : (a b c : List ℤ) → IsElement lattice a → IsElement lattice b → c ≡ lattice.least → lattice.Below a c → lattice.Below b c →
      lattice.Below (lattice.widen a b) c
  least_fixed a b c is other same below also =
      let under : lattice.Below b a =
      laws.transitive b lattice.least a other laws.least_element is (subst (lattice.Below b) same also) (laws.least_below a is) in
      subst (λ (row : List ℤ). lattice.Below row c) (sym (laws.widen_keeps a b is other under)) below

  beside_is : (row : List ℤ) → IsElement lattice row → IsElement (matrices_beside sizes lists) row
  beside_is row is = record { width = is.width; formed = is.formed }

  listed_fixed : (a b c : List ℤ) → IsElement lattice a → IsElement lattice b → IsElement lattice c → HaveListedWords sizes lists (matrices_in sizes c) →
      lattice.Below a c → lattice.Below b c → lattice.Below (lattice.widen a b) c
  listed_fixed a b c is other more listed below also = by_test (is_least sizes lists a)
    where
      by_test : (t : Bool) → lattice.Below (if t then b else (matrices_beside sizes lists).widen a b) c
      by_test true = also
      by_test false = rows_fixed sizes lists a b c (beside_is a is) (beside_is b other) (beside_is c more) listed below also

  pub heads_are_fixed : (f : Flow) (rows : ℕ → List ℤ) → ((node : ℕ) → IsHead f node → IsElement lattice (rows node)) →
      ((node : ℕ) → IsHead f node → IsListedRow sizes lists (rows node)) → HeadsAreFixed lattice f rows
  heads_are_fixed f rows elements listed head is a b ea eb below also =
      elim (listed head is) as (λ _. lattice.Below (lattice.widen a b) (rows head)) [
        | inl same ↦ least_fixed a b (rows head) ea eb same below also
        | inr words ↦ listed_fixed a b (rows head) ea eb (elements head is) words below also
      ]
