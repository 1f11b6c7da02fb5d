use Rattle.std.proofs.Common.{◌≡◌, take}
use Rattle.cob_data.specs.Names.{select_names}
use Rattle.cob_data.proofs.names.select_names.Given as goal

abbrev pub invariant-loop-select : goal.invariant-loop-select
invariant-loop-select l = l.names.items ≡ select_names (take l.select-index l.selects)
