use Rattle.std.proofs.Common.{length}
use Rattle.cert_text.proofs.matrix_gaps.+gap_from.Given as goal

abbrev pub decreases-gap_from : goal.decreases-gap_from
decreases-gap_from l = length l.packs.now
