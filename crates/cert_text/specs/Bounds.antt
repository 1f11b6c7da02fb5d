-- The bounds by which a certificate tells a row of matrices: one for each word off the diagonal that is a number.
use Rattle.std.specs.Prelude.{ℕ, suc, ◌+◌, ◌/◌, ◌%◌, nat_eq, if◌then◌else◌, Bool, List, [], ◌∷◌, ◌++◌, take, drop, ℤ, pos, int_lt, slice_index_or}
use Rattle.std.specs.List.{flat_map, range_with_len}
use Rattle.cert_text.specs.declared.cert.Bound.{Bound}
use Rattle.diff_bounds.specs.Matrix.{none}
use Rattle.diff_bounds.specs.PackRows.{words_of}

-- the bound of the word at a place of a pack's matrix, places counted row by row
abbrev pub bound : ℕ → ℕ → ℕ → ℤ → Bound
bound pack size k x = record { pack = pack; row = k / (size + 1); column = k % (size + 1); most = x }

abbrev pub is_on_diagonal : ℕ → ℕ → Bool
is_on_diagonal size k = nat_eq (k / (size + 1)) (k % (size + 1))

abbrev pub word_bounds : ℕ → ℕ → ℕ → ℤ → List Bound
word_bounds pack size k x = if is_on_diagonal size k then [] else if int_lt x none then bound pack size k x ∷ [] else []

abbrev pub matrix_bounds : ℕ → ℕ → List ℤ → List Bound
matrix_bounds pack size m = flat_map (λ k. word_bounds pack size k (slice_index_or m k (pos 0))) (range_with_len 0 (words_of size))

-- the bounds of a row from a pack on, packs given by their sizes
abbrev pub bounds_from : ℕ → List ℕ → List ℤ → List Bound
bounds_from pack [] row = []
bounds_from pack (n ∷ ns) row = matrix_bounds pack n (take (words_of n) row) ++ bounds_from (suc pack) ns (drop (words_of n) row)

-- the bounds of a row by pack, row and column
abbrev pub row_bounds : List ℕ → List ℤ → List Bound
row_bounds sizes row = bounds_from 1 sizes row
