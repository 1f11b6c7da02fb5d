use Rattle.std.proofs.Common.{◌≡◌, ◌+◌, min}
use Rattle.cob_graph.specs.Limits.{most_told}
use Rattle.cob_graph_build.specs.Sizes.{stmts_size, stmt_whens_size}
use Rattle.cob_graph_build.specs.Tables.{size_in}
use Rattle.cob_graph_build.proofs.Loops.{stmts_from, whens_from}
use Rattle.cob_graph_build.proofs.counting.+sizes.Given as goal

abbrev pub invariant-stmts_size-loop-stmt : goal.invariant-stmts_size-loop-stmt
invariant-stmts_size-loop-stmt l =
    min (l.sum + stmts_size (size_in l.table) (stmts_from l.list l.stmt-index))
    most_told ≡ min (stmts_size (size_in l.table) (stmts_from l.list 0)) most_told

abbrev pub invariant-whens_size-loop-when : goal.invariant-whens_size-loop-when
invariant-whens_size-loop-when l =
    min (l.sum + stmt_whens_size (size_in l.table) (whens_from l.whens l.when-index))
    most_told ≡ min (stmt_whens_size (size_in l.table) (whens_from l.whens 0)) most_told
