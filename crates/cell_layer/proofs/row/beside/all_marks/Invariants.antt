use Rattle.std.proofs.Common.{◌≡◌, map, take}
use Rattle.cob_runs.specs.declared.action.Cell.{Cell}
use Rattle.cell_layer.specs.Forgetting.{cell_marks, lists_in}
use Rattle.cell_layer.proofs.row.beside.all_marks.Given as goal

abbrev pub invariant-loop-cell : goal.invariant-loop-cell
invariant-loop-cell l = lists_in l.rows.items ≡ map (λ (c : Cell). cell_marks l.items l.cells c.item) (take l.cell-index l.cells)
