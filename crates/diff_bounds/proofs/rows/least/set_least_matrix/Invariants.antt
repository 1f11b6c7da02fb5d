use Rattle.std.proofs.Common.{◌≡◌, ℕ, ◌<◌, pos, get_or}
use Rattle.diff_bounds.specs.Lattice.{bottom_word}
use Rattle.diff_bounds.proofs.rows.least.set_least_matrix.Given as goal

abbrev pub invariant-loop-at : goal.invariant-loop-at
invariant-loop-at l = (j : ℕ) → j < l.at → get_or l.m j (pos 0) ≡ bottom_word l.size j
