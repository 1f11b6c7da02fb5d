use Rattle.std.proofs.Common.{◌≡◌, map}
use Rattle.cert_text.specs.View.{place_of}
use Rattle.interval_domain.specs.Rows.{element_of}
use Rattle.cert_text.specs.MatrixClaims.{cells_in, sizes_of}
use Rattle.analyse_core.specs.Certificates.{places_for}
use Rattle.analyse_core.proofs.certificate.elements_of.Given as goal

abbrev pub invariant-loop-node : goal.invariant-loop-node
invariant-loop-node g l =
    map place_of l.elements.items
    ≡ places_for (sizes_of (cells_in l.packs)) l.node (λ n. element_of (g.R.Rows.row_at l.rows n)) (g.B.Rows.row_at l.bounds)
