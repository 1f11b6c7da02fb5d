use Rattle.std.proofs.Common.{◌≡◌, ◌++◌, map, drop}
use Rattle.cob_typed_verbs.specs.Verbs.{opening}
use Rattle.cob_typed_verbs.proofs.verbs.add_openings.Given as goal

abbrev pub invariant-loop-file : goal.invariant-loop-file
invariant-loop-file l = l.list.items ++ map (opening l.output) (drop l.file-index l.file-items) ≡ l.initial.list.items ++ map (opening l.output) l.file-items
