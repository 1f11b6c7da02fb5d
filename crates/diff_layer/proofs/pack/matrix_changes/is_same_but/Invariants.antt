use Rattle.std.proofs.Common.{◌+◌}
use Rattle.diff_layer.proofs.SameBut.{AreSameTo}
use Rattle.diff_layer.proofs.pack.matrix_changes.is_same_but.Given as goal

abbrev pub invariant-loop-k : goal.invariant-loop-k
invariant-loop-k l = AreSameTo (l.size + 1) l.at l.old l.new l.k
