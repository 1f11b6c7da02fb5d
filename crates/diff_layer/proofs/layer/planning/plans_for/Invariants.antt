use Rattle.std.proofs.Common.{take}
use Rattle.diff_layer.specs.Planning.{ArePlansFor}
use Rattle.diff_layer.proofs.layer.planning.plans_for.Given as goal

abbrev pub invariant-loop-pack : goal.invariant-loop-pack
invariant-loop-pack l = ArePlansFor l.layout l.homes (take l.pack-index l.packs) l.plans.items
