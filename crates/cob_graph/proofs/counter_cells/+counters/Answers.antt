use Rattle.std.proofs.Common.{◌+◌, ◌∙◌, refl}
use Rattle.cob_program.specs.declared.act.Stmt.{out-Stmt}
use Rattle.cob_program.specs.ActView.{plain_act, plain_stmt, plain_when, plain_whens}
use Rattle.cob_program.specs.Statements.{with_inner_statements, when_statements, whens_statements}
use Rattle.cob_graph.specs.Homes.{stmt_homes, count_homes}
use Rattle.cob_graph.specs.Numbers.{inner_homes}
use Rattle.cob_graph.proofs.InnerHomes.{block_homes, arith_cut, if_cut, evaluate_cut, read_cut}
use Rattle.cob_graph.proofs.LeftLemmas.{found_here, goes_on, found_in_rest}
use Rattle.cob_graph.proofs.StatementLoops.{statements_from, whens_from, statement_first, when_first, statement_cut}
use Rattle.cob_graph.proofs.counter_cells.+counters.Goals as goal

pub in_list-returns-in_err-left : goal.in_list-returns-in_err-left
in_list-returns-in_err-left t c =
    let xs = c.args.list.now in
    let l = c.loop-here in
    let cut = statement_first xs l.here-index c.here-item.result c.loop-here-test.true c.here-item.is in
    c.from_residual.ensures
    ∙ found_here c.args.statement (statements_from xs 0) (statements_from xs l.here-index)
    (count_homes (with_inner_statements (plain_stmt c.here-item.result))) (statements_from xs (l.here-index + 1)) _ _ _ cut l.invariant
    c.in_err-left.ensures

pub in_list-loop-here-preserved : goal.in_list-loop-here-preserved
in_list-loop-here-preserved t c =
    let xs = c.args.list.now in
    let l = c.loop-here in
    let cut = statement_first xs l.here-index c.here-item.result c.loop-here-test.true c.here-item.is in
    goes_on c.args.statement (statements_from xs 0) (statements_from xs l.here-index)
    (count_homes (with_inner_statements (plain_stmt c.here-item.result))) (statements_from xs (l.here-index + 1)) _ _ _ cut l.invariant
    c.in_ok-left.ensures

pub in_whens-returns-in_err-left : goal.in_whens-returns-in_err-left
in_whens-returns-in_err-left t c =
    let xs = c.args.whens.now in
    let l = c.loop-when in
    let cut = when_first xs l.when-index c.when-item.result c.loop-when-test.true c.when-item.is in
    c.from_residual.ensures
    ∙ found_here c.args.statement (whens_from xs 0) (whens_from xs l.when-index)
    (count_homes (when_statements (plain_when c.when-item.result))) (whens_from xs (l.when-index + 1)) _ _ _ cut l.invariant
    c.in_err-left.ensures

pub in_whens-loop-when-preserved : goal.in_whens-loop-when-preserved
in_whens-loop-when-preserved t c =
    let xs = c.args.whens.now in
    let l = c.loop-when in
    let cut = when_first xs l.when-index c.when-item.result c.loop-when-test.true c.when-item.is in
    goes_on c.args.statement (whens_from xs 0) (whens_from xs l.when-index)
    (count_homes (when_statements (plain_when c.when-item.result))) (whens_from xs (l.when-index + 1)) _ _ _ cut l.invariant
    c.in_ok-left.ensures

pub from_statement-returns-in_err-left : goal.from_statement-returns-in_err-left
from_statement-returns-in_err-left t c =
    let s = c.args.here.now in
    let all = count_homes (with_inner_statements (plain_stmt s)) in
    c.from_residual.ensures
    ∙ found_here c.args.statement all all (stmt_homes (plain_stmt s)) (inner_homes (plain_act (out-Stmt s).act)) _ _ _ (statement_cut s) refl c.in_err-left.ensures

pub from_statement-returns : goal.from_statement-returns
from_statement-returns t c =
    let s = c.args.here.now in
    found_in_rest c.args.statement (count_homes (with_inner_statements (plain_stmt s))) (stmt_homes (plain_stmt s))
    (inner_homes (plain_act (out-Stmt s).act)) _ _ _ (statement_cut s) c.in_ok-left.ensures c.in_act.ensures

pub in_act-returns-in_err-left-in-If : goal.in_act-returns-in_err-left-in-If
in_act-returns-in_err-left-in-If t c =
    let x = c.in-If in
    let all = inner_homes (plain_act c.args.act.now) in
    (c.from_residual-in_err-left-in-If).ensures
    ∙ found_here c.args.statement all all (block_homes x.yes) (block_homes x.no) _ _ _ (if_cut c.args.act.now x.test x.yes x.no x.is) refl
    (c.in_err-left-in-If).ensures

pub in_act-returns-in_ok-left-in-If : goal.in_act-returns-in_ok-left-in-If
in_act-returns-in_ok-left-in-If t c =
    let x = c.in-If in
    found_in_rest c.args.statement (inner_homes (plain_act c.args.act.now)) (block_homes x.yes) (block_homes x.no) _ _ _ (if_cut c.args.act.now x.test x.yes x.no x.is)
    (c.in_ok-left-in-If).ensures (c.in_block-in-If-2).ensures

pub in_act-returns-in_err-left-in-Evaluate : goal.in_act-returns-in_err-left-in-Evaluate
in_act-returns-in_err-left-in-Evaluate t c =
    let x = c.in-Evaluate in
    let all = inner_homes (plain_act c.args.act.now) in
    (c.from_residual-in_err-left-in-Evaluate).ensures
    ∙ found_here c.args.statement all all (count_homes (whens_statements (plain_whens x.whens.items))) (block_homes x.other) _ _ _ (evaluate_cut c.args.act.now x.whens x.other x.is) refl
    (c.in_err-left-in-Evaluate).ensures

pub in_act-returns-in_ok-left-in-Evaluate : goal.in_act-returns-in_ok-left-in-Evaluate
in_act-returns-in_ok-left-in-Evaluate t c =
    let x = c.in-Evaluate in
    found_in_rest c.args.statement (inner_homes (plain_act c.args.act.now)) (count_homes (whens_statements (plain_whens x.whens.items))) (block_homes x.other) _ _ _ (evaluate_cut c.args.act.now x.whens x.other x.is)
    (c.in_ok-left-in-Evaluate).ensures (c.in_block-in-Evaluate).ensures

pub in_act-returns-in_err-left-in-Some : goal.in_act-returns-in_err-left-in-Some
in_act-returns-in_err-left-in-Some t c =
    let x = c.in-Arith in
    let list = c.in-Some.list in
    let all = inner_homes (plain_act c.args.act.now) in
    c.from_residual.ensures
    ∙ found_here c.args.statement all all (block_homes list) (block_homes x.fine) _ _ _
    (arith_cut c.args.act.now x.common x.targets x.remainder x.size x.fine list x.is c.in-Some.is) refl c.in_err-left-in-Some.ensures

pub in_act-returns-in_ok-left-in-Some : goal.in_act-returns-in_ok-left-in-Some
in_act-returns-in_ok-left-in-Some t c =
    let x = c.in-Arith in
    let list = c.in-Some.list in
    found_in_rest c.args.statement (inner_homes (plain_act c.args.act.now)) (block_homes list) (block_homes x.fine) _ _ _
    (arith_cut c.args.act.now x.common x.targets x.remainder x.size x.fine list x.is c.in-Some.is) c.in_ok-left-in-Some.ensures c.in_block-in-Some-2.ensures

pub in_act-returns-in_err-left-in-Some-end : goal.in_act-returns-in_err-left-in-Some-end
in_act-returns-in_err-left-in-Some-end t c =
    let x = c.in-Read in
    let list = c.in-Some-end.list in
    let all = inner_homes (plain_act c.args.act.now) in
    c.from_residual-in_err-left-in-Some-end.ensures
    ∙ found_here c.args.statement all all (block_homes list) (block_homes x.fine) _ _ _
    (read_cut c.args.act.now x.file x.into x.end x.fine list x.is c.in-Some-end.is) refl c.in_err-left-in-Some-end.ensures

pub in_act-returns-in_ok-left-in-Some-end : goal.in_act-returns-in_ok-left-in-Some-end
in_act-returns-in_ok-left-in-Some-end t c =
    let x = c.in-Read in
    let list = c.in-Some-end.list in
    found_in_rest c.args.statement (inner_homes (plain_act c.args.act.now)) (block_homes list) (block_homes x.fine) _ _ _
    (read_cut c.args.act.now x.file x.into x.end x.fine list x.is c.in-Some-end.is) c.in_ok-left-in-Some-end.ensures c.in_block-in-Some-end-2.ensures
