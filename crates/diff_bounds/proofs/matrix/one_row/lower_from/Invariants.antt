use Rattle.std.proofs.Common.{◌≡◌}
use Rattle.diff_bounds.specs.Matrix.{word}
use Rattle.diff_bounds.specs.RowSums.{IsBetter}
use Rattle.diff_bounds.proofs.RowSums.{SumsLowered}
use Rattle.diff_bounds.proofs.matrix.one_row.lower_from.Given as goal

abbrev pub invariant-loop-column : goal.invariant-loop-column
invariant-loop-column l = record {
  number : l.number ≡ word l.places l.m l.at l.over;
  sums : SumsLowered (λ k y x. IsBetter y (word l.places l.m l.at l.over) (word l.places l.m l.over k) x) l.column l.fn.sums l.sums;
}
