use Rattle.std.proofs.Common.{◌+◌, ◌∙◌}
use Rattle.cob_program.specs.ActView.{plain_para}
use Rattle.cob_program.specs.Statements.{para_statements}
use Rattle.cob_graph.specs.Homes.{count_homes}
use Rattle.cob_graph.proofs.LeftLemmas.{found_here, goes_on}
use Rattle.cob_graph.proofs.StatementLoops.{paras_from, para_first}
use Rattle.cob_graph.proofs.counter_cells.in_paras.Goals as goal

pub returns-in_err-left : goal.returns-in_err-left
returns-in_err-left c =
    let xs = c.args.paras.now in
    let l = c.loop-para in
    let cut = para_first xs l.para-index c.para-item.result c.loop-para-test.true c.para-item.is in
    c.from_residual.ensures
    ∙ found_here c.args.statement (paras_from xs 0) (paras_from xs l.para-index)
    (count_homes (para_statements (plain_para c.para-item.result))) (paras_from xs (l.para-index + 1)) _ _ _ cut l.invariant
    c.in_err-left.ensures

pub loop-para-preserved : goal.loop-para-preserved
loop-para-preserved c =
    let xs = c.args.paras.now in
    let l = c.loop-para in
    let cut = para_first xs l.para-index c.para-item.result c.loop-para-test.true c.para-item.is in
    goes_on c.args.statement (paras_from xs 0) (paras_from xs l.para-index)
    (count_homes (para_statements (plain_para c.para-item.result))) (paras_from xs (l.para-index + 1)) _ _ _ cut l.invariant
    c.in_ok-left.ensures
