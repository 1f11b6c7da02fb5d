use Rattle.std.proofs.Common.{ℕ, ◌<◌, pos, get_or}
use Rattle.diff_bounds.specs.Matrix.{word}
use Rattle.diff_bounds.specs.RowSums.{IsLeastOver}
use Rattle.diff_bounds.proofs.matrix.one_row.sums_into.Given as goal

abbrev pub invariant-loop-over : goal.invariant-loop-over
invariant-loop-over l = (i : ℕ) → i < l.places → IsLeastOver l.over (word l.places l.m) i l.at (get_or l.sums i (pos 0))
