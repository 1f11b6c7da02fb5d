-- Rows of the matrices of several packs, one behind the other (Miné 2001).
use Rattle.std.specs.Prelude.{ℕ, ◌+◌, ◌*◌, ◌&&◌, Bool, true, false, List, [], ◌∷◌, ◌++◌, take, drop, Vec, map, ℤ, int_le}
use Rattle.std.specs.declared.alloc.Global.{Global}
use Rattle.std.specs.List.{AllByRecursion}
use Rattle.dom_laws.specs.Lattice.{Lattice, IsLattice}
use Rattle.diff_bounds.specs.Widening.{AreThresholds}
use Rattle.diff_bounds.specs.Lattice.{matrices}
use Rattle.diff_bounds.specs.Lattices.{no_words, beside, with_arrival}

-- how many words the matrix of a pack of so many cells has
abbrev pub words_of : ℕ → ℕ
words_of size = (size + 1) * (size + 1)

-- how many words a row for packs of these sizes has
abbrev pub width_of : List ℕ → ℕ
width_of [] = 0
width_of (n ∷ ns) = words_of n + width_of ns

-- the matrices in a row
abbrev pub matrices_in : List ℕ → List ℤ → List (List ℤ)
matrices_in [] row = []
matrices_in (n ∷ ns) row = take (words_of n) row ∷ matrices_in ns (drop (words_of n) row)

-- the row of some matrices
abbrev pub row_of : List (List ℤ) → List ℤ
row_of [] = []
row_of (m ∷ ms) = m ++ row_of ms

-- ---- the lattice

-- by how many cells each pack has, and by its thresholds
abbrev pub matrices_beside : List ℕ → List (List ℤ) → Lattice
matrices_beside (n ∷ ns) (ts ∷ lists) = beside (matrices n ts) (matrices_beside ns lists)
matrices_beside _ _ = no_words

-- no word is above the other one's
abbrev pub are_at_most : List ℤ → List ℤ → Bool
are_at_most [] ys = true
are_at_most (x ∷ xs) [] = false
are_at_most (x ∷ xs) (y ∷ ys) = int_le x y && are_at_most xs ys

-- no word is above that of the least row
abbrev pub is_least : List ℕ → List (List ℤ) → List ℤ → Bool
is_least sizes lists row = are_at_most row (matrices_beside sizes lists).least

abbrev pub packs_lattice : List ℕ → List (List ℤ) → Lattice
packs_lattice sizes lists = with_arrival (is_least sizes lists) (matrices_beside sizes lists)

-- the thresholds as lists of numbers
abbrev pub lists_of : List (Vec ℤ Global) → List (List ℤ)
lists_of thresholds = map (λ list. list.items) thresholds

abbrev pub RowsAreALattice : Type 0
RowsAreALattice = (sizes : List ℕ) (lists : List (List ℤ)) → AllByRecursion AreThresholds lists → IsLattice (packs_lattice sizes lists)
