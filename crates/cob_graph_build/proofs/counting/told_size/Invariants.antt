use Rattle.std.proofs.Common.{◌≡◌, drop}
use Rattle.cob_graph_build.specs.Tables.{told_size}
use Rattle.cob_graph_build.proofs.counting.told_size.Given as goal

abbrev pub invariant-loop-entry : goal.invariant-loop-entry
invariant-loop-entry l = told_size (drop l.entry-index l.table) l.first l.last ≡ told_size l.initial.table l.first l.last
