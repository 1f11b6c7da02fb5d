-- Rows of the matrices of packs, which nothing widens.
use Rattle.std.specs.Prelude.{ℕ, List, [], map, ℤ}
use Rattle.dom_laws.specs.Lattice.{Lattice}
use Rattle.diff_bounds.specs.declared.Pack.{Pack}
use Rattle.diff_bounds.specs.PackRows.{packs_lattice}
use Rattle.cert_text.specs.MatrixClaims.{cells_in, sizes_of}

-- an empty list for each pack
abbrev pub no_thresholds : List ℕ → List (List ℤ)
no_thresholds sizes = map (λ n. []) sizes

-- the lattice of rows for packs of these sizes
abbrev pub rows_for : List ℕ → Lattice
rows_for sizes = packs_lattice sizes (no_thresholds sizes)

abbrev pub rows_of_packs : List Pack → Lattice
rows_of_packs packs = rows_for (sizes_of (cells_in packs))
