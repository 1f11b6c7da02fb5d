use Rattle.std.proofs.Common.{◌≡◌, take}
use Rattle.pack_laws.specs.Packs.{pack_in}
use Rattle.diff_layer.proofs.layer.planning.cells_with.Given as goal

abbrev pub invariant-loop-number : goal.invariant-loop-number
invariant-loop-number l = l.cells.items ≡ pack_in l.homes (take l.number-index l.numbers)
