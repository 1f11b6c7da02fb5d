use Rattle.std.proofs.Common.{ℕ, ◌<◌}
use Rattle.diff_bounds.specs.Matrix.{word}
use Rattle.diff_bounds.specs.RowSums.{IsNegativeAt}
use Rattle.diff_bounds.proofs.matrix.one_row.is_negative_trip.Given as goal

abbrev pub invariant-loop-over : goal.invariant-loop-over
invariant-loop-over l = (v : ℕ) → v < l.over → IsNegativeAt l.at (word l.places l.m) l.into v → ⊥
