use Rattle.std.proofs.Common.{◌+◌}
use Rattle.diff_bounds.specs.Matrix.{word, IsMatrix}
use Rattle.diff_layer.proofs.KnownWords.{IsPutTo}
use Rattle.diff_layer.proofs.pack.matrix_closing.put_all.Given as goal

abbrev pub invariant-loop-k : goal.invariant-loop-k
invariant-loop-k l = record {
  put : IsPutTo l.size l.k l.cells (word (l.size + 1) l.fn.m) (word (l.size + 1) l.m);
  matrix : IsMatrix l.size l.m;
}
