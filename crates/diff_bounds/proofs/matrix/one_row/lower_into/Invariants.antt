use Rattle.std.proofs.Common.{◌≡◌}
use Rattle.diff_bounds.specs.Matrix.{word}
use Rattle.diff_bounds.specs.RowSums.{IsBetter}
use Rattle.diff_bounds.proofs.RowSums.{SumsLowered}
use Rattle.diff_bounds.proofs.matrix.one_row.lower_into.Given as goal

abbrev pub invariant-loop-row : goal.invariant-loop-row
invariant-loop-row l = record {
  number : l.number ≡ word l.places l.m l.over l.at;
  sums : SumsLowered (λ k y x. IsBetter y (word l.places l.m k l.over) (word l.places l.m l.over l.at) x) l.row l.fn.sums l.sums;
}
