use Rattle.std.proofs.Common.{◌≡◌, drop}
use Rattle.cert_text.specs.MatrixClaims.{claimed_matrix}
use Rattle.cert_text.proofs.matrix_claims.set_matrix.Given as goal

abbrev pub invariant-loop-k : goal.invariant-loop-k
invariant-loop-k l = l.m ≡ claimed_matrix (drop l.k l.bounds) l.pack l.size
