-- The bounds of a row mean this row.
use Rattle.std.proofs.Common.{◌≡◌, ◌≢◌, ℕ, zero, suc, ◌+◌, ◌*◌, ◌/◌, ◌%◌, ◌<◌, ◌≤◌, Bool, true, false, List, [], ◌∷◌, ◌++◌, length, take, drop, get_or, ℤ, pos, ◌<ℤ◌, ◌≤ℤ◌, inl, inr, refl, sym, ap, subst, ◌∙◌, arith}
use Rattle.std.specs.Prelude.{if◌then◌else◌, int_lt, nat_eq}
use Rattle.std.specs.List.{flat_map, range_with_len}
use Rattle.std.proofs.lemmas.Int.{ints}
use Rattle.std.proofs.lemmas.Bool.{cases_eq, eqb-true, eq-eqb, ne_eqb}
use Rattle.std.proofs.lemmas.Nat.{div-add-mod', mod_below}
use Rattle.std.proofs.lemmas.List.{take-append-drop}
use Rattle.std.proofs.lemmas.List.FromFn.{fill_by_all}
use Rattle.dom_laws.specs.Lattice.{IsElement}
use Rattle.diff_bounds.specs.Matrix.{IsMatrix, none}
use Rattle.diff_bounds.specs.Lattice.{matrix_of}
use Rattle.cert_text.specs.declared.cert.Bound.{Bound}
use Rattle.diff_bounds.specs.PackRows.{matrices_beside, row_of, words_of}
use Rattle.cert_text.specs.MatrixClaims.{bound_at, claimed_matrix, claimed_word, is_of, matrices_from}
use Rattle.cert_text.proofs.MatrixFilling.{of_tells}
use Rattle.cert_text.specs.Bounds.{bound, bounds_from, is_on_diagonal, matrix_bounds, word_bounds}
use Rattle.cert_text.specs.BoundLaws.{BoundsMeanTheirRow}

-- ---- what is sought in a list, or something else where it isn't there

abbrev sought : List Bound → ℕ → ℕ → ℕ → ℤ → ℤ
sought [] pack row column other = other
sought (b ∷ bounds) pack row column other = if is_of b pack row column then b.most else sought bounds pack row column other

it_is_sought : (bounds : List Bound) (pack row column : ℕ) → bound_at bounds pack row column ≡ sought bounds pack row column none
it_is_sought [] pack row column = refl
it_is_sought (b ∷ bounds) pack row column = ap (λ (x : ℤ). if is_of b pack row column then b.most else x) (it_is_sought bounds pack row column)

sought_behind : (xs ys : List Bound) (pack row column : ℕ) (other : ℤ)
    → sought (xs ++ ys) pack row column other ≡ sought xs pack row column (sought ys pack row column other)
sought_behind [] ys pack row column other = refl
sought_behind (b ∷ bounds) ys pack row column other =
    ap (λ (x : ℤ). if is_of b pack row column then b.most else x) (sought_behind bounds ys pack row column other)

-- ---- the bounds of a word

-- the bounds of a word say nothing of another pack, row or column
word_of_others : (pack size k : ℕ) (x : ℤ) (other_pack row column : ℕ) (other : ℤ) → is_of (bound pack size k x) other_pack row column ≡ false
    → sought (word_bounds pack size k x) other_pack row column other ≡ other
word_of_others pack size k x other_pack row column other e = on (is_on_diagonal size k)
  where
    within : (t : Bool) → sought (if t then bound pack size k x ∷ [] else []) other_pack row column other ≡ other
    within true = rw e refl
    within false = refl

    on : (t : Bool) → sought (if t then [] else if int_lt x none then bound pack size k x ∷ [] else []) other_pack row column other ≡ other
    on true = refl
    on false = within (int_lt x none)

not_of : (b : Bound) (pack row column : ℕ) → ((b.pack ≡ pack) → (b.row ≡ row) → (b.column ≡ column) → ⊥) → is_of b pack row column ≡ false
not_of b pack row column differ = go (is_of b pack row column) refl
  where
    go : (t : Bool) → is_of b pack row column ≡ t → is_of b pack row column ≡ false
    go true e = let told = of_tells b pack row column e in absurd (differ told.0 told.1.0 told.1.1)
    go false e = e

-- the bounds of a word off the diagonal say that word of its own place
word_of_itself : (pack size k : ℕ) (x : ℤ) → is_on_diagonal size k ≡ false → x ≤ℤ none
    → sought (word_bounds pack size k x) pack (k / (size + 1)) (k % (size + 1)) none ≡ x
word_of_itself pack size k x off top = rw off (within (int_lt x none) refl)
  where
    own : is_of (bound pack size k x) pack (k / (size + 1)) (k % (size + 1)) ≡ true
    own = rw (eq-eqb pack pack refl) (rw (eq-eqb (k / (size + 1)) (k / (size + 1)) refl) (eq-eqb (k % (size + 1)) (k % (size + 1)) refl))

    within : (t : Bool) → int_lt x none ≡ t → sought (if t then bound pack size k x ∷ [] else []) pack (k / (size + 1)) (k % (size + 1)) none ≡ x
    within true e = rw own refl
    within false e = let not_less : ¬ (x <ℤ none) = grind (arith, ints, e) in omega (arith, ints, not_less, top)

-- ---- the bounds of a matrix

module _ (f : ℕ → List Bound) (pack row column : ℕ) where
  none_in : (a n : ℕ) (other : ℤ) → ((k : ℕ) (x : ℤ) → a ≤ k → k < a + n → sought (f k) pack row column x ≡ x)
      → sought (flat_map f (range_with_len a n)) pack row column other ≡ other
  none_in a zero other each = refl
  none_in a (suc n) other each =
      sought_behind (f a) (flat_map f (range_with_len (a + 1) n)) pack row column other
      ∙ each a (sought (flat_map f (range_with_len (a + 1) n)) pack row column other) (omega arith) (omega arith)
      ∙ none_in (a + 1) n other (λ k x low high. each k x (omega (arith, low)) (omega (arith, high)))

  one_in : (a n at : ℕ) (other : ℤ) → a ≤ at → at < a + n
      → ((k : ℕ) (x : ℤ) → a ≤ k → k < a + n → (k ≡ at → ⊥) → sought (f k) pack row column x ≡ x)
      → sought (flat_map f (range_with_len a n)) pack row column other ≡ sought (f at) pack row column other
  one_in a zero at other low high each = absurd (omega (arith, low, high))
  one_in a (suc n) at other low high each = elim (cases_eq a at) as (λ _. sought (flat_map f (range_with_len a (suc n))) pack row column other ≡ sought (f at) pack row column other) [
    | inl same ↦
        sought_behind (f a) (flat_map f (range_with_len (a + 1) n)) pack row column other
        ∙ ap (sought (f a) pack row column) (none_in (a + 1) n other (λ k x more less. each k x (omega (arith, more)) (omega (arith, less)) (λ e. omega (arith, e, same, more))))
        ∙ ap (λ k. sought (f k) pack row column other) same
    | inr ne ↦
        sought_behind (f a) (flat_map f (range_with_len (a + 1) n)) pack row column other
        ∙ each a (sought (flat_map f (range_with_len (a + 1) n)) pack row column other) (omega arith) (omega arith) ne
        ∙ one_in (a + 1) n at other (omega (arith, low, ne)) (omega (arith, high)) (λ k x more less. each k x (omega (arith, more)) (omega (arith, less)))
  ]

-- two places of a row and a column are one
one_place : (s k at : ℕ) → k / s ≡ at / s → k % s ≡ at % s → k ≡ at
one_place s k at rows columns = sym (div-add-mod' k s) ∙ (λ i. rows i * s + columns i) ∙ div-add-mod' at s

module _ (pack size : ℕ) (m : List ℤ) where
  word_in : (at : ℕ) → at < words_of size → is_on_diagonal size at ≡ false → get_or m at (pos 0) ≤ℤ none
      → sought (matrix_bounds pack size m) pack (at / (size + 1)) (at % (size + 1)) none ≡ get_or m at (pos 0)
  word_in at high off top =
      one_in (λ k. word_bounds pack size k (get_or m k (pos 0))) pack (at / (size + 1)) (at % (size + 1)) 0 (words_of size) at none (omega arith) (omega (arith, high))
      (λ k x low less ne. word_of_others pack size k (get_or m k (pos 0)) pack (at / (size + 1)) (at % (size + 1)) x
      (not_of (bound pack size k (get_or m k (pos 0))) pack (at / (size + 1)) (at % (size + 1)) (λ e rows columns. ne (one_place (size + 1) k at rows columns))))
      ∙ word_of_itself pack size at (get_or m at (pos 0)) off top

  of_another : (other_pack row column : ℕ) (other : ℤ) → pack ≢ other_pack → sought (matrix_bounds pack size m) other_pack row column other ≡ other
  of_another other_pack row column other ne =
      none_in (λ k. word_bounds pack size k (get_or m k (pos 0))) other_pack row column 0 (words_of size) other
      (λ k x low less. word_of_others pack size k (get_or m k (pos 0)) other_pack row column x
      (not_of (bound pack size k (get_or m k (pos 0))) other_pack row column (λ e rows columns. ne e)))

-- ---- rows

before_these : (pack : ℕ) (sizes : List ℕ) (row : List ℤ) (other_pack i j : ℕ) (other : ℤ) → other_pack < pack
    → sought (bounds_from pack sizes row) other_pack i j other ≡ other
before_these pack [] row other_pack i j other less = refl
before_these pack (n ∷ ns) row other_pack i j other less =
    let m = take (words_of n) row in
    let others = bounds_from (suc pack) ns (drop (words_of n) row) in
    sought_behind (matrix_bounds pack n m) others other_pack i j other
    ∙ of_another pack n m other_pack i j (sought others other_pack i j other) (λ e. omega (arith, e, less))
    ∙ before_these (suc pack) ns (drop (words_of n) row) other_pack i j other (omega (arith, less))

same_matrices : (pack : ℕ) (sizes : List ℕ) (xs ys : List Bound) → ((q i j : ℕ) → pack ≤ q → bound_at xs q i j ≡ bound_at ys q i j)
    → matrices_from pack sizes xs ≡ matrices_from pack sizes ys
same_matrices pack [] xs ys same = refl
same_matrices pack (n ∷ ns) xs ys same =
    let first : claimed_matrix xs pack n ≡ claimed_matrix ys pack n =
    λ i. matrix_of n (λ k. if nat_eq (k / (n + 1)) (k % (n + 1)) then pos 0 else same pack (k / (n + 1)) (k % (n + 1)) (omega arith) i) in
    let rest = same_matrices (suc pack) ns xs ys (λ q i j low. same q i j (omega (arith, low))) in
    λ i. first i ∷ rest i

zero_on : (size : ℕ) (m : List ℤ) → IsMatrix size m → (k : ℕ) → k < words_of size → k / (size + 1) ≡ k % (size + 1) → get_or m k (pos 0) ≡ pos 0
zero_on size m is k h e =
    let i = k % (size + 1) in
    let place : i * (size + 1) + i ≡ k = ap (λ (q : ℕ). q * (size + 1) + i) (sym e) ∙ div-add-mod' k (size + 1) in
    subst (λ (q : ℕ). get_or m q (pos 0) ≡ pos 0) place (is.diagonal i (mod_below k (size + 1) (omega arith)))

module _ (pack size : ℕ) (m : List ℤ) (others : List Bound) (is : IsMatrix size m) where
  matrix_is : ((i j : ℕ) → sought others pack i j none ≡ none) → m ≡ claimed_matrix (matrix_bounds pack size m ++ others) pack size
  matrix_is later =
      fill_by_all (claimed_word (matrix_bounds pack size m ++ others) pack size) m (words_of size) (pos 0) is.width
      (λ k h. by_place k h (nat_eq (k / (size + 1)) (k % (size + 1))) refl)
    where
      by_place : (k : ℕ) → k < words_of size → (t : Bool) → nat_eq (k / (size + 1)) (k % (size + 1)) ≡ t
          → get_or m k (pos 0) ≡ claimed_word (matrix_bounds pack size m ++ others) pack size k
      by_place k h true e = rw e (zero_on size m is k h (eqb-true _ _ e))
      by_place k h false e =
          rw e
          (sym
          (it_is_sought (matrix_bounds pack size m ++ others) pack (k / (size + 1)) (k % (size + 1))
          ∙ sought_behind (matrix_bounds pack size m) others pack (k / (size + 1)) (k % (size + 1)) none
          ∙ ap (sought (matrix_bounds pack size m) pack (k / (size + 1)) (k % (size + 1))) (later (k / (size + 1)) (k % (size + 1)))
          ∙ word_in pack size m k h e (is.words k (omega (arith, h, is.width))).top))

row_is : (pack : ℕ) (sizes : List ℕ) (lists : List (List ℤ)) (row : List ℤ) → length lists ≡ length sizes
    → IsElement (matrices_beside sizes lists) row → row ≡ row_of (matrices_from pack sizes (bounds_from pack sizes row))
row_is pack [] lists [] listed is = refl
row_is pack [] lists (x ∷ row) listed is = absurd (let e = is.width in omega (arith, e))
row_is pack (n ∷ ns) [] row listed is = absurd (omega (arith, listed))
row_is pack (n ∷ ns) (ts ∷ lists) row listed is =
    let w = words_of n in
    let m = take w row in
    let rest = drop w row in
    let others = bounds_from (suc pack) ns rest in
    let first = matrix_is pack n m others is.formed.0.formed (λ i j. before_these (suc pack) ns rest pack i j none (omega arith)) in
    let second = row_is (suc pack) ns lists rest (omega (arith, listed)) is.formed.1 in
    let third : matrices_from (suc pack) ns others ≡ matrices_from (suc pack) ns (matrix_bounds pack n m ++ others) =
    same_matrices (suc pack) ns others (matrix_bounds pack n m ++ others)
    (λ q i j low.
    it_is_sought others q i j
    ∙ sym
    (it_is_sought (matrix_bounds pack n m ++ others) q i j ∙ sought_behind (matrix_bounds pack n m) others q i j none
    ∙ of_another pack n m q i j (sought others q i j none) (λ e. omega (arith, e, low)))) in
    sym (take-append-drop w row) ∙ (λ i. first i ++ second i) ∙ ap (λ ms. claimed_matrix (matrix_bounds pack n m ++ others) pack n ++ row_of ms) third

pub bounds_mean : BoundsMeanTheirRow
bounds_mean sizes lists claims row listed is = sym (row_is 1 sizes lists row listed (record { width = is.width; formed = is.formed }))
