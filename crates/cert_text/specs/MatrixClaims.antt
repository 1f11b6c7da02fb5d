-- What the claims of a node mean for packs: a matrix for each pack, one behind the other, with the bounds as written.
use Rattle.std.specs.Prelude.{ℕ, suc, ◌+◌, ◌/◌, ◌%◌, ◌==◌, ◌&&◌, nat_eq, if◌then◌else◌, IsTrue, Bool, List, [], ◌∷◌, length, map, ℤ, pos}
use Rattle.diff_bounds.specs.declared.Pack.{Pack}
use Rattle.diff_bounds.specs.Matrix.{none}
use Rattle.diff_bounds.specs.Lattice.{matrix_of, bottom_word}
use Rattle.cert_text.specs.declared.cert.Bound.{Bound}
use Rattle.cert_text.specs.View.{Place, NotReached, Holds}
use Rattle.cert_text.specs.Allowed.{bounds_fit, no_key}
use Rattle.diff_bounds.specs.PackRows.{row_of}

-- the cells of each pack
abbrev pub cells_in : List Pack → List (List ℕ)
cells_in packs = map (λ p. p.cells.items) packs

-- how many cells each pack has
abbrev pub sizes_of : List (List ℕ) → List ℕ
sizes_of packs = map length packs

-- ---- bounds

abbrev pub is_of : Bound → ℕ → ℕ → ℕ → Bool
is_of b pack row column = (b.pack == pack) && ((b.row == row) && (b.column == column))

-- what is claimed of the value at a row of a pack less that at a column, or none
abbrev pub bound_at : List Bound → ℕ → ℕ → ℕ → ℤ
bound_at [] pack row column = none
bound_at (b ∷ bounds) pack row column = if is_of b pack row column then b.most else bound_at bounds pack row column

-- the word at a place of a pack's matrix, places counted row by row
abbrev pub claimed_word : List Bound → ℕ → ℕ → ℕ → ℤ
claimed_word bounds pack size k =
    if nat_eq (k / (size + 1)) (k % (size + 1)) then pos 0 else bound_at bounds pack (k / (size + 1)) (k % (size + 1))

abbrev pub claimed_matrix : List Bound → ℕ → ℕ → List ℤ
claimed_matrix bounds pack size = matrix_of size (claimed_word bounds pack size)

-- the matrices that bounds mean from a pack on, packs given by their sizes
abbrev pub matrices_from : ℕ → List ℕ → List Bound → List (List ℤ)
matrices_from pack [] bounds = []
matrices_from pack (n ∷ ns) bounds = claimed_matrix bounds pack n ∷ matrices_from (suc pack) ns bounds

-- ---- rows

-- the least matrices, in which no values stand
abbrev pub least_matrices : List ℕ → List (List ℤ)
least_matrices sizes = map (λ n. matrix_of n (bottom_word n)) sizes

-- No run comes to a node that is claimed not to be reached.
abbrev pub claimed_matrices : List ℕ → Place → List (List ℤ)
claimed_matrices sizes NotReached = least_matrices sizes
claimed_matrices sizes (Holds claims bounds) = matrices_from 1 sizes bounds

-- The row that the claims of a node mean.
abbrev pub claimed_row : List ℕ → Place → List ℤ
claimed_row sizes place = row_of (claimed_matrices sizes place)

-- ---- which claims

-- the bounds of a node are as a certificate for these packs may have them
abbrev pub HasFittingBounds : List (List ℕ) → Place → Type 0
HasFittingBounds packs NotReached = Unit {0}
HasFittingBounds packs (Holds claims bounds) = IsTrue (bounds_fit packs no_key bounds)
