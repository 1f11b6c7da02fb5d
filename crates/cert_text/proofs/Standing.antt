-- Claimed rows are elements of the lattice of rows.
use Rattle.std.proofs.Common.{◌≡◌, ℕ, suc, ◌+◌, ◌*◌, ◌/◌, ◌%◌, ◌≤◌, Bool, true, false, List, [], ◌∷◌, ◌++◌, length, ℤ, pos, neg_ℤ, refl, sym, ap, subst, ◌∙◌, arith}
use Rattle.std.specs.Prelude.{if◌then◌else◌, nat_eq, unsigned_abs, ◌^◌}
use Rattle.std.specs.List.{AllByRecursion}
use Rattle.std.proofs.lemmas.Int.{ints}
use Rattle.std.proofs.lemmas.Bool.{eq-eqb}
use Rattle.std.proofs.lemmas.Nat.{div-mul-add, mod-mul-add}
use Rattle.dom_laws.specs.Lattice.{IsElement}
use Rattle.diff_bounds.specs.Matrix.{IsMatrix, IsWord, largest, none}
use Rattle.diff_bounds.specs.Lattice.{bottom_word, matrices, matrix_of}
use Rattle.diff_bounds.proofs.Places.{place_fits}
use Rattle.cert_text.specs.declared.cert.Bound.{Bound}
use Rattle.cert_text.specs.declared.draft.Key.{Key}
use Rattle.cert_text.specs.View.{NotReached, Holds}
use Rattle.cert_text.specs.Allowed.{bounds_fit, key_of, no_key}
use Rattle.diff_bounds.specs.PackRows.{matrices_beside, packs_lattice, row_of}
use Rattle.diff_bounds.proofs.Lattices.{pair_is}
use Rattle.cert_text.specs.MatrixClaims.{bound_at, claimed_matrix, claimed_row, is_of, least_matrices, matrices_from, sizes_of}
use Rattle.cert_text.specs.MatrixGaps.{ClaimedRowsAreElements, UnreachedRowsAreLeast}
use Rattle.cert_text.proofs.MatrixFilling.{matrix_width, matrix_word}
use Rattle.cert_text.proofs.Sharing.{fit_parts}

-- ---- words

zero_is_word : IsWord (pos 0)
zero_is_word = record { low = omega (arith, ints); high = λ b. omega (arith, ints); top = omega (arith, ints) }

none_is_word : IsWord none
none_is_word = record { low = omega (arith, ints); high = λ b. absurd (omega (arith, ints, b)); top = omega (arith, ints) }

lowest_is_word : IsWord (neg_ℤ largest)
lowest_is_word = record { low = omega (arith, ints); high = λ b. omega (arith, ints); top = omega (arith, ints) }

small_is_word : (x : ℤ) → unsigned_abs x ≤ 10 ^ 37 → IsWord x
small_is_word x h = record { low = omega (arith, ints, h); high = λ b. omega (arith, ints, h); top = omega (arith, ints, h) }

abbrev AreSmall : List Bound → Type 0
AreSmall bounds = AllByRecursion (λ b. unsigned_abs b.most ≤ 10 ^ 37) bounds

bound_is_word : (bounds : List Bound) (pack row column : ℕ) → AreSmall bounds → IsWord (bound_at bounds pack row column)
bound_is_word [] pack row column small = none_is_word
bound_is_word (b ∷ bounds) pack row column small =
    by_test (is_of b pack row column) (bound_is_word bounds pack row column small.1)
  where
    by_test : (t : Bool) → IsWord (bound_at bounds pack row column) → IsWord (if t then b.most else bound_at bounds pack row column)
    by_test true rest = small_is_word b.most small.0
    by_test false rest = rest

-- ---- matrices

-- a matrix of words that are 0 on the diagonal
matrix_is : (size : ℕ) (off : ℕ → ℕ → ℤ) → ((i j : ℕ) → IsWord (off i j))
    → IsMatrix size (matrix_of size (λ k. if nat_eq (k / (size + 1)) (k % (size + 1)) then pos 0 else off (k / (size + 1)) (k % (size + 1))))
matrix_is size off are = record {
  width = matrix_width size words;
  words = λ k h. subst IsWord (sym (matrix_word size words k (omega (arith, h, matrix_width size words)))) (by_test (nat_eq (k / (size + 1)) (k % (size + 1))) k);
  diagonal = λ i h.
      matrix_word size words (i * (size + 1) + i) (place_fits (size + 1) i i h h)
      ∙ (let same : nat_eq ((i * (size + 1) + i) / (size + 1)) ((i * (size + 1) + i) % (size + 1)) ≡ true = eq-eqb _ _ (div-mul-add i (size + 1) i h ∙ sym (mod-mul-add i (size + 1) i h)) in
      ap (λ t. if t then pos 0 else off ((i * (size + 1) + i) / (size + 1)) ((i * (size + 1) + i) % (size + 1))) same);
}
  where
    words : ℕ → ℤ
    words k = if nat_eq (k / (size + 1)) (k % (size + 1)) then pos 0 else off (k / (size + 1)) (k % (size + 1))

    by_test : (t : Bool) (k : ℕ) → IsWord (if t then pos 0 else off (k / (size + 1)) (k % (size + 1)))
    by_test true k = zero_is_word
    by_test false k = are (k / (size + 1)) (k % (size + 1))

one_is : (size : ℕ) (ts m : List ℤ) → IsMatrix size m → IsElement (matrices size ts) m
one_is size ts m is = record { width = is.width; formed = is }

-- ---- rows

abbrev IsRow : List ℕ → List (List ℤ) → List ℤ → Type 0
IsRow sizes lists row = IsElement (matrices_beside sizes lists) row

its_row : (sizes : List ℕ) (lists : List (List ℤ)) (row : List ℤ) → IsRow sizes lists row → IsElement (packs_lattice sizes lists) row
its_row sizes lists row is = record { width = is.width; formed = is.formed }

claimed_is : (pack : ℕ) (sizes : List ℕ) (lists : List (List ℤ)) (bounds : List Bound) → length lists ≡ length sizes → AreSmall bounds
    → IsRow sizes lists (row_of (matrices_from pack sizes bounds))
claimed_is pack [] lists bounds listed small = record { width = refl; formed = tt }
claimed_is pack (n ∷ ns) [] bounds listed small = absurd (omega (arith, listed))
claimed_is pack (n ∷ ns) (ts ∷ lists) bounds listed small =
    pair_is (matrices n ts) (matrices_beside ns lists) (claimed_matrix bounds pack n) (row_of (matrices_from (suc pack) ns bounds))
    (one_is n ts (claimed_matrix bounds pack n) (matrix_is n (bound_at bounds pack) (λ i j. bound_is_word bounds pack i j small)))
    (claimed_is (suc pack) ns lists bounds (omega (arith, listed)) small)

least_is : (sizes : List ℕ) (lists : List (List ℤ)) → length lists ≡ length sizes → IsRow sizes lists (row_of (least_matrices sizes))
least_is [] lists listed = record { width = refl; formed = tt }
least_is (n ∷ ns) [] listed = absurd (omega (arith, listed))
least_is (n ∷ ns) (ts ∷ lists) listed =
    pair_is (matrices n ts) (matrices_beside ns lists) (matrix_of n (bottom_word n)) (row_of (least_matrices ns))
    (one_is n ts (matrix_of n (bottom_word n)) (matrix_is n (λ i j. neg_ℤ largest) (λ i j. lowest_is_word)))
    (least_is ns lists (omega (arith, listed)))

fit_small : (packs : List (List ℕ)) (last : Key) (bounds : List Bound) → bounds_fit packs last bounds ≡ true → AreSmall bounds
fit_small packs last [] h = tt
fit_small packs last (b ∷ bounds) h =
    let both = fit_parts packs last b bounds h in
    (both.0.small, fit_small packs (key_of b) bounds both.1)

many : (packs : List (List ℕ)) → length (sizes_of packs) ≡ length packs
many [] = refl
many (p ∷ packs) = ap suc (many packs)

pub rows_are_elements : ClaimedRowsAreElements
rows_are_elements packs lists NotReached listed fits =
    its_row (sizes_of packs) lists (claimed_row (sizes_of packs) NotReached) (least_is (sizes_of packs) lists (listed ∙ sym (many packs)))
rows_are_elements packs lists (Holds claims bounds) listed fits =
    its_row (sizes_of packs) lists (claimed_row (sizes_of packs) (Holds claims bounds))
    (claimed_is 1 (sizes_of packs) lists bounds (listed ∙ sym (many packs)) (fit_small packs no_key bounds fits))

pub rows_are_least : UnreachedRowsAreLeast
rows_are_least [] lists listed = refl
rows_are_least (n ∷ ns) [] listed = absurd (omega (arith, listed))
rows_are_least (n ∷ ns) (ts ∷ lists) listed = ap (λ (row : List ℤ). matrix_of n (bottom_word n) ++ row) (rows_are_least ns lists (omega (arith, listed)))
