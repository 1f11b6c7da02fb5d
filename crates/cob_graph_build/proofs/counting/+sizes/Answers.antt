use Rattle.std.proofs.Common.{◌+◌, ap}
use Rattle.cob_program.specs.ActView.{plain_stmt, plain_when, plain_stmts, plain_whens}
use Rattle.cob_program.proofs.Loops.{item_step}
use Rattle.cob_graph.specs.Limits.{most_told}
use Rattle.cob_graph_build.specs.Sizes.{stmt_size, stmts_size, when_size, stmt_whens_size}
use Rattle.cob_graph_build.specs.Tables.{size_in}
use Rattle.cob_graph_build.proofs.Loops.{stmts_from, whens_from}
use Rattle.cob_graph_build.proofs.SizeLoops.{summed}
use Rattle.cob_graph_build.proofs.counting.+sizes.Goals as goal

pub stmts_size-loop-stmt-preserved : goal.stmts_size-loop-stmt-preserved
stmts_size-loop-stmt-preserved t c =
    let g = size_in c.args.table.now in
    let xs = c.args.list.now in
    let i = c.loop-stmt.stmt-index in
    let x = c.stmt-item.result in
    summed most_told _ _ _ (stmt_size g (plain_stmt x)) (stmts_size g (stmts_from xs i)) (stmts_size g (stmts_from xs (i + 1))) _
    c.plus-sum.ensures c.stmt_size.ensures
    (ap (λ ys. stmts_size g (plain_stmts ys)) (item_step xs i x c.loop-stmt-test.true c.stmt-item.is)) c.loop-stmt.invariant

pub whens_size-loop-when-preserved : goal.whens_size-loop-when-preserved
whens_size-loop-when-preserved t c =
    let g = size_in c.args.table.now in
    let xs = c.args.whens.now in
    let i = c.loop-when.when-index in
    let x = c.when-item.result in
    summed most_told _ _ _ (when_size g (plain_when x)) (stmt_whens_size g (whens_from xs i)) (stmt_whens_size g (whens_from xs (i + 1))) _
    c.plus-sum.ensures c.when_size.ensures
    (ap (λ ys. stmt_whens_size g (plain_whens ys)) (item_step xs i x c.loop-when-test.true c.when-item.is)) c.loop-when.invariant
