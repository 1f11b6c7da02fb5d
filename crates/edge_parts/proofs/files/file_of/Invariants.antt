use Rattle.std.proofs.Common.{◌≡◌, drop}
use Rattle.cob_runs.specs.Acts.{file_from}
use Rattle.edge_parts.proofs.files.file_of.Given as goal

abbrev pub invariant-loop-at : goal.invariant-loop-at
invariant-loop-at l = file_from l.layout 0 l.layout.files l.rec ≡ file_from l.layout l.at (drop l.at l.decl-items) l.rec
