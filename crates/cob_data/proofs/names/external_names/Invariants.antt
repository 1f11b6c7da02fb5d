use Rattle.std.proofs.Common.{◌≡◌, take}
use Rattle.cob_data.specs.Names.{external_names}
use Rattle.cob_data.proofs.names.external_names.Given as goal

abbrev pub invariant-loop-select : goal.invariant-loop-select
invariant-loop-select l = l.names.items ≡ external_names (take l.select-index l.selects)
