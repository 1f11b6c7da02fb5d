use Rattle.std.proofs.Common.{◌≡◌}
use Rattle.std.specs.Prelude.{take}
use Rattle.diff_bounds.specs.PackRows.{lists_of}
use Rattle.cert_text.specs.MatrixClaims.{cells_in, sizes_of}
use Rattle.layer_driver.specs.Rows.{no_thresholds}
use Rattle.layer_driver.proofs.packs.no_thresholds.Given as goal

abbrev pub invariant-loop-pack : goal.invariant-loop-pack
invariant-loop-pack l = lists_of l.lists.items ≡ no_thresholds (sizes_of (cells_in (take l._pack-index l.packs)))
