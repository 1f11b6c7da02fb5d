use Rattle.std.proofs.Common.{◌≡◌, map, take}
use Rattle.cob_data.specs.Layouts.{file_of}
use Rattle.cob_data.proofs.build.files_of.Given as goal

abbrev pub invariant-loop-select : goal.invariant-loop-select
invariant-loop-select l = l.files.items ≡ map (file_of l.known) (take l.select-index l.selects)
