use Rattle.std.proofs.Common.{◌≡◌, length}
use Rattle.pack_laws.specs.Packs.{ArePacksOfCells}
use Rattle.layer_driver.proofs.packs.packs_in.Given as goal

abbrev pub invariant-loop-word : goal.invariant-loop-word
invariant-loop-word l = (length l.packs.items ≡ l.word-index) × ArePacksOfCells l.cells l.packs.items
