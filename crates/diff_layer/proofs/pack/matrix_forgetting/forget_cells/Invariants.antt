use Rattle.std.proofs.Common.{◌≡◌, ◌+◌, drop}
use Rattle.diff_bounds.specs.Matrix.{IsMatrix}
use Rattle.diff_layer.specs.PackGone.{forgotten_marked}
use Rattle.diff_layer.proofs.pack.matrix_forgetting.forget_cells.Given as goal

abbrev pub invariant-loop-k : goal.invariant-loop-k
invariant-loop-k l = record {
  left : forgotten_marked l.size (l.k + 1) (drop l.k l.gone) l.m ≡ forgotten_marked l.size 1 l.gone l.fn.m;
  matrix : IsMatrix l.size l.m;
}
