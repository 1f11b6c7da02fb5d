use Rattle.std.proofs.Common.{◌≡◌, take}
use Rattle.diff_layer.specs.Planning.{sizes_in}
use Rattle.diff_layer.proofs.layer.planning.sizes_of.Given as goal

abbrev pub invariant-loop-pack : goal.invariant-loop-pack
invariant-loop-pack l = l.sizes.items ≡ sizes_in (take l.pack-index l.packs)
