use Rattle.std.proofs.Common.{◌≡◌, map, take}
use Rattle.cob_data.specs.Layouts.{pair_of}
use Rattle.cob_data.proofs.build.pairs_of.Given as goal

abbrev pub invariant-loop-span : goal.invariant-loop-span
invariant-loop-span l = l.pairs.items ≡ map pair_of (take l.span-index l.spans)
