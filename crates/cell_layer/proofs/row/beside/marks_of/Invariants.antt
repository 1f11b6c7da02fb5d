use Rattle.std.proofs.Common.{◌≡◌, take}
use Rattle.cell_layer.specs.Forgetting.{marks_of}
use Rattle.cell_layer.proofs.row.beside.marks_of.Given as goal

abbrev pub invariant-loop-cell : goal.invariant-loop-cell
invariant-loop-cell l = l.marks.items ≡ marks_of l.items l.extent (take l.cell-index l.cells)
