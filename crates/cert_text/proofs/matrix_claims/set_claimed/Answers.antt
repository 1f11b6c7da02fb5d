use Rattle.std.proofs.Common.{sym, subst}
use Rattle.cert_text.specs.View.{place_of}
use Rattle.cert_text.specs.MatrixClaims.{HasFittingBounds, cells_in, sizes_of}
use Rattle.cert_text.specs.Written.{AreFrom}
use Rattle.cert_text.proofs.Sharing.{fit_are}
use Rattle.cert_text.proofs.matrix_claims.set_claimed.Goals as goal

pub set_bounds-requires-clause-bounds : goal.set_bounds-requires-clause-bounds
set_bounds-requires-clause-bounds c =
    let packs = cells_in c.args.packs.now in
    let fits = subst (λ place. HasFittingBounds packs (place_of place)) c.in-At.is c.requires.bounds in
    subst (AreFrom 1 (sizes_of packs)) (sym c.as_slice.ensures.value) (fit_are packs c.in-At.bounds.items fits)
