use Rattle.std.proofs.Common.{length}
use Rattle.cert_text.proofs.matrix_claims.+set_bounds.Given as goal

abbrev pub decreases-set_bounds : goal.decreases-set_bounds
decreases-set_bounds l = length l.packs.now
