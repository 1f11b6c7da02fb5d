use Rattle.std.proofs.Common.{◌≡◌, drop}
use Rattle.analyse_core.specs.Firsts.{holds}
use Rattle.analyse_core.specs.Choice.{numbers_of, same_cells}
use Rattle.analyse_core.proofs.choice.is_there.Given as goal

abbrev pub invariant-loop-pack : goal.invariant-loop-pack
invariant-loop-pack l = holds same_cells (numbers_of (drop l.pack-index l.packs)) l.cells ≡ holds same_cells (numbers_of l.packs) l.cells
