use Rattle.cert_text.proofs.MatrixFilling.{IsPlainTo}
use Rattle.cert_text.proofs.matrix_claims.set_plain.Given as goal

abbrev pub invariant-loop-place : goal.invariant-loop-place
invariant-loop-place l = IsPlainTo l.word l.size l.place l.m
