use Rattle.std.proofs.Common.{◌≡◌, ℕ, ◌<◌, []}
use Rattle.cert_text.proofs.MatrixSeeking.{gaps_at}
use Rattle.cert_text.proofs.matrix_gaps.matrix_gap.Given as goal

abbrev pub invariant-loop-at : goal.invariant-loop-at
invariant-loop-at l = (j : ℕ) → j < l.at → gaps_at l.pack l.size l.reached l.claimed j ≡ []
