use Rattle.std.proofs.Common.{◌≡◌, length}
use Rattle.std.specs.Prelude.{take}
use Rattle.std.specs.List.{flat_map}
use Rattle.cert_text.specs.View.{place_of}
use Rattle.diff_bounds.specs.PackRows.{width_of}
use Rattle.cert_text.specs.MatrixClaims.{cells_in, claimed_row, sizes_of}
use Rattle.cert_check.proofs.bounds.rows_of.Given as goal

abbrev pub invariant-loop-place : goal.invariant-loop-place
invariant-loop-place l =
    (l.words.items ≡ flat_map (λ place. claimed_row (sizes_of (cells_in l.packs)) (place_of place)) (take l.place-index l.places))
    × (length l.row ≡ width_of (sizes_of (cells_in l.packs)))
