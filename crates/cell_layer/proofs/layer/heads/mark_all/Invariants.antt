use Rattle.std.proofs.Common.{◌≡◌, take, length}
use Rattle.cell_layer.specs.Heads.{heads_of}
use Rattle.cell_layer.proofs.layer.heads.mark_all.Given as goal

abbrev pub invariant-loop-edge : goal.invariant-loop-edge
invariant-loop-edge l = l.heads ≡ heads_of (length l.fn.heads) (take l.edge-index l.edges)
