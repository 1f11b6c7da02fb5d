use Rattle.std.proofs.Common.{◌≡◌, ◌++◌, map, take, pos}
use Rattle.cert_text.specs.Text.{numbers_text}
use Rattle.cert_text.proofs.printing.push_cells.Given as goal

abbrev pub invariant-loop-cell : goal.invariant-loop-cell
invariant-loop-cell l = l.text.items ≡ l.fn.text.items ++ numbers_text (map pos (take l.cell-index l.cells))
