-- Gaps tell the order of rows, and each is of a bound that is claimed.
use Rattle.std.proofs.Common.{◌≡◌, ◌≢◌, ℕ, zero, suc, ◌+◌, ◌*◌, ◌/◌, ◌%◌, ◌<◌, ◌≤◌, Bool, true, false, List, [], ◌∷◌, ◌++◌, length, take, drop, get_or, Some, None, ℤ, pos, ◌≤ℤ◌, ◌<ℤ◌, refl, sym, ap, subst, ◌∙◌, take_at, drop_at, arith}
use Rattle.std.specs.Prelude.{if◌then◌else◌, int_lt, nat_eq}
use Rattle.std.specs.List.{AllByRecursion, Contains, flat_map, range_with_len}
use Rattle.std.proofs.lemmas.Int.{ints}
use Rattle.std.proofs.lemmas.Option.{same_Some}
use Rattle.std.proofs.lemmas.Bool.{eqb-true}
use Rattle.std.proofs.lemmas.Nat.{div-add-mod', mod_below}
use Rattle.dom_laws.specs.Lattice.{IsElement}
use Rattle.diff_bounds.specs.Matrix.{IsMatrix, none}
use Rattle.diff_bounds.specs.Order.{IsAtMost}
use Rattle.diff_bounds.specs.Numbers.{number_of}
use Rattle.cert_text.specs.declared.cert.Bound.{Bound}
use Rattle.cert_text.specs.declared.gap.Gap.{Gap}
use Rattle.cert_text.specs.declared.gap.Gap.TheVariants.{Diff}
use Rattle.diff_bounds.specs.PackRows.{matrices_beside, packs_lattice, row_of, words_of}
use Rattle.cert_text.specs.MatrixClaims.{bound_at, claimed_matrix, claimed_word, is_of, matrices_from}
use Rattle.cert_text.specs.MatrixGaps.{GapsAreOfBounds, GapsTellTheOrder, IsOfBound, gaps_from, matrix_gaps, word_gaps}
use Rattle.cert_text.proofs.MatrixFilling.{matrix_width, matrix_word, of_tells}
use Rattle.cert_text.proofs.MatrixSeeking.{each_none, no_parts, none_at}

-- ---- one word

no_gap : (pack size k : ℕ) (reached claimed : ℤ) → word_gaps pack size k reached claimed ≡ [] → reached ≤ℤ claimed
no_gap pack size k reached claimed e = go (int_lt claimed reached) refl e
  where
    go : (t : Bool) → int_lt claimed reached ≡ t
        → (if t then Diff pack (k / (size + 1)) (k % (size + 1)) (number_of reached) claimed ∷ [] else []) ≡ [] → reached ≤ℤ claimed
    go true f h = absurd (cc h)
    go false f h = grind (arith, ints, f)

gap_none : (pack size k : ℕ) (reached claimed : ℤ) → reached ≤ℤ claimed → word_gaps pack size k reached claimed ≡ []
gap_none pack size k reached claimed low = go (int_lt claimed reached) refl
  where
    go : (t : Bool) → int_lt claimed reached ≡ t
        → (if t then Diff pack (k / (size + 1)) (k % (size + 1)) (number_of reached) claimed ∷ [] else []) ≡ []
    go true f = absurd (let less : claimed <ℤ reached = grind (arith, ints, f) in omega (arith, ints, less, low))
    go false f = refl

-- ---- one matrix

module _ (pack size : ℕ) (reached claimed : List ℤ) where
  matrix_down : length reached ≡ words_of size → matrix_gaps pack size reached claimed ≡ [] → IsAtMost reached claimed
  matrix_down wide e = record {
    words = λ k h. no_gap pack size k (get_or reached k (pos 0)) (get_or claimed k (pos 0))
        (each_none (λ k. word_gaps pack size k (get_or reached k (pos 0)) (get_or claimed k (pos 0))) 0 (words_of size) e k (omega arith) (omega (arith, h, wide)));
  }

  matrix_up : length reached ≡ words_of size → IsAtMost reached claimed → matrix_gaps pack size reached claimed ≡ []
  matrix_up wide below =
      none_at (λ k. word_gaps pack size k (get_or reached k (pos 0)) (get_or claimed k (pos 0))) 0 (words_of size)
      (λ k low high. gap_none pack size k (get_or reached k (pos 0)) (get_or claimed k (pos 0)) (below.words k (omega (arith, high, wide))))

-- ---- rows

abbrev IsRow : List ℕ → List (List ℤ) → List ℤ → Type 0
IsRow sizes lists row = IsElement (matrices_beside sizes lists) row

its_row : (sizes : List ℕ) (lists : List (List ℤ)) (row : List ℤ) → IsElement (packs_lattice sizes lists) row → IsRow sizes lists row
its_row sizes lists row is = record { width = is.width; formed = is.formed }

rows_down : (pack : ℕ) (sizes : List ℕ) (lists : List (List ℤ)) (reached claimed : List ℤ) → length lists ≡ length sizes
    → IsRow sizes lists reached → gaps_from pack sizes reached claimed ≡ [] → (matrices_beside sizes lists).Below reached claimed
rows_down pack [] lists reached claimed listed is e = tt
rows_down pack (n ∷ ns) [] reached claimed listed is e = absurd (omega (arith, listed))
rows_down pack (n ∷ ns) (ts ∷ lists) reached claimed listed is e =
    let w = words_of n in
    let parts = no_parts (matrix_gaps pack n (take w reached) (take w claimed)) (gaps_from (suc pack) ns (drop w reached) (drop w claimed)) e in (
      matrix_down pack n (take w reached) (take w claimed) is.formed.0.width parts.0,
      rows_down (suc pack) ns lists (drop w reached) (drop w claimed) (omega (arith, listed)) is.formed.1 parts.1,
    )

rows_up : (pack : ℕ) (sizes : List ℕ) (lists : List (List ℤ)) (reached claimed : List ℤ) → length lists ≡ length sizes
    → IsRow sizes lists reached → (matrices_beside sizes lists).Below reached claimed → gaps_from pack sizes reached claimed ≡ []
rows_up pack [] lists reached claimed listed is below = refl
rows_up pack (n ∷ ns) [] reached claimed listed is below = absurd (omega (arith, listed))
rows_up pack (n ∷ ns) (ts ∷ lists) reached claimed listed is below =
    let w = words_of n in
    let first = matrix_up pack n (take w reached) (take w claimed) is.formed.0.width below.0 in
    let rest = rows_up (suc pack) ns lists (drop w reached) (drop w claimed) (omega (arith, listed)) is.formed.1 below.1 in
    λ i. first i ++ rest i

pub gaps_tell : GapsTellTheOrder
gaps_tell sizes lists reached claimed listed is other =
    let row = its_row sizes lists reached is in
    (rows_down 1 sizes lists reached claimed listed row, rows_up 1 sizes lists reached claimed listed row)

-- ---- of which bounds

abbrev bound : ℕ → ℕ → ℕ → ℤ → Bound
bound pack row column most = record { pack = pack; row = row; column = column; most = most }

-- a bound below none is claimed
claimed_there : (bounds : List Bound) (pack row column : ℕ) → bound_at bounds pack row column <ℤ none
    → Contains bounds (bound pack row column (bound_at bounds pack row column))
claimed_there [] pack row column low = absurd (omega (arith, ints, low))
claimed_there (b ∷ bounds) pack row column low =
    go (is_of b pack row column) refl (claimed_there bounds pack row column)
  where
    go : (t : Bool) → is_of b pack row column ≡ t → (bound_at bounds pack row column <ℤ none → Contains bounds (bound pack row column (bound_at bounds pack row column)))
        → Contains (b ∷ bounds) (bound pack row column (if is_of b pack row column then b.most else bound_at bounds pack row column))
    go true e rest =
        let told = of_tells b pack row column e in
        let same : b ≡ bound pack row column b.most = λ i. record { pack = told.0 i; row = told.1.0 i; column = told.1.1 i; most = b.most } in
        rw e (0, omega arith, same)
    go false e rest =
        let there = rest (rw e at low) in
        rw e (suc there.0, omega (arith, there.1), there.2)

differ : (reached claimed : ℤ) → claimed <ℤ reached → number_of reached ≢ Some claimed
differ reached claimed less = go (int_lt reached none)
  where
    go : (t : Bool) → (if t then Some reached else None) ≢ Some claimed
    go true e = let same = same_Some reached claimed e in omega (arith, ints, less, same)
    go false e = cc e

module _ (bounds : List Bound) where
  all_gaps : (as_ bs : List Gap) → AllByRecursion (IsOfBound bounds) as_ → AllByRecursion (IsOfBound bounds) bs → AllByRecursion (IsOfBound bounds) (as_ ++ bs)
  all_gaps [] bs first rest = rest
  all_gaps (g ∷ as_) bs first rest = (first.0, all_gaps as_ bs first.1 rest)

  all_places : (f : ℕ → List Gap) (a n : ℕ) → ((k : ℕ) → a ≤ k → k < a + n → AllByRecursion (IsOfBound bounds) (f k)) → AllByRecursion (IsOfBound bounds) (flat_map f (range_with_len a n))
  all_places f a zero each = tt
  all_places f a (suc n) each =
      all_gaps (f a) (flat_map f (range_with_len (a + 1) n)) (each a (omega arith) (omega arith))
      (all_places f (a + 1) n (λ k low high. each k (omega (arith, low)) (omega (arith, high))))

  -- a word of a pack's matrix, against a word reached that is no number above none, and 0 on the diagonal
  word_is_of : (pack size k : ℕ) (reached : ℤ) → reached ≤ℤ none → (k / (size + 1) ≡ k % (size + 1) → reached ≡ pos 0)
      → AllByRecursion (IsOfBound bounds) (word_gaps pack size k reached (claimed_word bounds pack size k))
  word_is_of pack size k reached top zero_there =
      by_place (nat_eq (k / (size + 1)) (k % (size + 1))) refl
    where
      by_gap : (t : Bool) → int_lt (bound_at bounds pack (k / (size + 1)) (k % (size + 1))) reached ≡ t
          → AllByRecursion (IsOfBound bounds)
          (if t then Diff pack (k / (size + 1)) (k % (size + 1)) (number_of reached) (bound_at bounds pack (k / (size + 1)) (k % (size + 1))) ∷ [] else [])
      by_gap false e = tt
      by_gap true e =
          let less : bound_at bounds pack (k / (size + 1)) (k % (size + 1)) <ℤ reached = grind (arith, ints, e) in
          let low : bound_at bounds pack (k / (size + 1)) (k % (size + 1)) <ℤ none = omega (arith, ints, less, top) in
          ((claimed_there bounds pack (k / (size + 1)) (k % (size + 1)) low, differ reached (bound_at bounds pack (k / (size + 1)) (k % (size + 1))) less), tt)

      on_diagonal : (t : Bool) → int_lt (pos 0) reached ≡ t → reached ≡ pos 0
          → AllByRecursion (IsOfBound bounds) (if t then Diff pack (k / (size + 1)) (k % (size + 1)) (number_of reached) (pos 0) ∷ [] else [])
      on_diagonal false e same = tt
      on_diagonal true e same = absurd (let less : pos 0 <ℤ reached = grind (arith, ints, e) in omega (arith, ints, less, same))

      by_place : (t : Bool) → nat_eq (k / (size + 1)) (k % (size + 1)) ≡ t
          → AllByRecursion (IsOfBound bounds) (word_gaps pack size k reached (claimed_word bounds pack size k))
      by_place true e = rw e (on_diagonal (int_lt (pos 0) reached) refl (zero_there (eqb-true _ _ e)))
      by_place false e = rw e (by_gap (int_lt (bound_at bounds pack (k / (size + 1)) (k % (size + 1))) reached) refl)

  zero_on : (size : ℕ) (m : List ℤ) → IsMatrix size m → (k : ℕ) → k < words_of size → k / (size + 1) ≡ k % (size + 1) → get_or m k (pos 0) ≡ pos 0
  zero_on size m is k h e =
      let i = k % (size + 1) in
      let place : i * (size + 1) + i ≡ k = ap (λ (q : ℕ). q * (size + 1) + i) (sym e) ∙ div-add-mod' k (size + 1) in
      subst (λ (q : ℕ). get_or m q (pos 0) ≡ pos 0) place (is.diagonal i (mod_below k (size + 1) (omega arith)))

  matrix_is_of : (pack size : ℕ) (reached : List ℤ) → IsMatrix size reached
      → AllByRecursion (IsOfBound bounds) (matrix_gaps pack size reached (claimed_matrix bounds pack size))
  matrix_is_of pack size reached is =
      all_places (λ k. word_gaps pack size k (get_or reached k (pos 0)) (get_or (claimed_matrix bounds pack size) k (pos 0))) 0 (words_of size)
      (λ k low high.
      subst (λ (x : ℤ). AllByRecursion (IsOfBound bounds) (word_gaps pack size k (get_or reached k (pos 0)) x))
      (sym (matrix_word size (claimed_word bounds pack size) k (omega (arith, high))))
      (word_is_of pack size k (get_or reached k (pos 0)) (is.words k (omega (arith, high, is.width))).top (zero_on size reached is k (omega (arith, high)))))

  rows_are_of : (pack : ℕ) (sizes : List ℕ) (lists : List (List ℤ)) (reached : List ℤ) → length lists ≡ length sizes → IsRow sizes lists reached
      → AllByRecursion (IsOfBound bounds) (gaps_from pack sizes reached (row_of (matrices_from pack sizes bounds)))
  rows_are_of pack [] lists reached listed is = tt
  rows_are_of pack (n ∷ ns) [] reached listed is = absurd (omega (arith, listed))
  rows_are_of pack (n ∷ ns) (ts ∷ lists) reached listed is =
      let w = words_of n in
      let m = claimed_matrix bounds pack n in
      let others = row_of (matrices_from (suc pack) ns bounds) in
      let wide = matrix_width n (claimed_word bounds pack n) in
      let front = take_at m others w wide in
      let back = drop_at m others w wide in
      all_gaps (matrix_gaps pack n (take w reached) (take w (m ++ others))) (gaps_from (suc pack) ns (drop w reached) (drop w (m ++ others)))
      (subst (λ (x : List ℤ). AllByRecursion (IsOfBound bounds) (matrix_gaps pack n (take w reached) x)) (sym front) (matrix_is_of pack n (take w reached) is.formed.0.formed))
      (subst (λ (x : List ℤ). AllByRecursion (IsOfBound bounds) (gaps_from (suc pack) ns (drop w reached) x)) (sym back)
      (rows_are_of (suc pack) ns lists (drop w reached) (omega (arith, listed)) is.formed.1))

pub gaps_are_of : GapsAreOfBounds
gaps_are_of sizes lists claims bounds reached listed is = rows_are_of bounds 1 sizes lists reached listed (its_row sizes lists reached is)
