-- What the bounds of a row tell.
use Rattle.std.specs.Prelude.{◌≡◌, ℕ, List, length, ℤ, IsTrue}
use Rattle.dom_laws.specs.Lattice.{IsElement}
use Rattle.diff_bounds.specs.PackRows.{packs_lattice}
use Rattle.cert_text.specs.declared.cert.Claim.{Claim}
use Rattle.cert_text.specs.View.{Holds}
use Rattle.cert_text.specs.Allowed.{bounds_fit, no_key}
use Rattle.cert_text.specs.MatrixClaims.{claimed_row, sizes_of}
use Rattle.cert_text.specs.Bounds.{row_bounds}

-- The bounds of a row mean that row.
abbrev pub BoundsMeanTheirRow : Type 0
BoundsMeanTheirRow =
    (sizes : List ℕ) (lists : List (List ℤ)) (claims : List Claim) (row : List ℤ) → length lists ≡ length sizes
    → IsElement (packs_lattice sizes lists) row → claimed_row sizes (Holds claims (row_bounds sizes row)) ≡ row

-- A certificate may have them.
abbrev pub BoundsFit : Type 0
BoundsFit =
    (packs : List (List ℕ)) (lists : List (List ℤ)) (row : List ℤ) → length lists ≡ length packs
    → IsElement (packs_lattice (sizes_of packs) lists) row → IsTrue (bounds_fit packs no_key (row_bounds (sizes_of packs) row))
