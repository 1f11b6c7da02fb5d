use Rattle.std.proofs.Common.{ℕ, ◌<◌, pos, get_or}
use Rattle.diff_bounds.specs.Matrix.{word}
use Rattle.diff_bounds.specs.RowSums.{IsLeastOver}
use Rattle.diff_bounds.proofs.matrix.one_row.sums_from.Given as goal

abbrev pub invariant-loop-over : goal.invariant-loop-over
invariant-loop-over l = (j : ℕ) → j < l.places → IsLeastOver l.over (word l.places l.m) l.at j (get_or l.sums j (pos 0))
