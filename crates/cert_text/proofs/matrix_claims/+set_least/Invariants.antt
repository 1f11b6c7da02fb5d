use Rattle.std.proofs.Common.{length}
use Rattle.cert_text.proofs.matrix_claims.+set_least.Given as goal

abbrev pub decreases-set_least : goal.decreases-set_least
decreases-set_least l = length l.packs.now
