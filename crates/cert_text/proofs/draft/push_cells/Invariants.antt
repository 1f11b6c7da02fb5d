use Rattle.std.proofs.Common.{◌≡◌, drop}
use Rattle.cert_text.specs.Draft.{cells_among}
use Rattle.cert_text.proofs.Loops.{with_front}
use Rattle.cert_text.proofs.draft.push_cells.Given as goal

abbrev pub invariant-loop-number : goal.invariant-loop-number
invariant-loop-number l = with_front l.pack.items (cells_among l.cells l.last (drop l.number-index l.numbers)) ≡ with_front l.fn.pack.items (cells_among l.cells 0 l.numbers)
