use Rattle.std.proofs.Common.{◌≡◌, map, take}
use Rattle.cob_data.specs.Layouts.{flag_of}
use Rattle.cob_data.proofs.build.flags_of.Given as goal

abbrev pub invariant-loop-condition : goal.invariant-loop-condition
invariant-loop-condition l = l.flags.items ≡ map flag_of (take l.condition-index l.conditions)
