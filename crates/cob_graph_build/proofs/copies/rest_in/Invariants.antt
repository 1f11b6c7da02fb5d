use Rattle.std.proofs.Common.{◌≡◌, drop}
use Rattle.cob_graph_build.specs.Tables.{rest_in}
use Rattle.cob_graph_build.proofs.copies.rest_in.Given as goal

abbrev pub invariant-loop-place : goal.invariant-loop-place
invariant-loop-place l = rest_in (drop l.place l.table) l.first l.last ≡ rest_in l.table l.first l.last
