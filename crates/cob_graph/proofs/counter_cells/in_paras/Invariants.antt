use Rattle.std.proofs.Common.{◌≡◌, drop}
use Rattle.cob_program.specs.ActView.{plain_paras}
use Rattle.cob_program.specs.Statements.{paras_statements}
use Rattle.cob_graph.specs.Homes.{count_homes}
use Rattle.cob_graph.specs.Numbers.{left_at}
use Rattle.cob_graph.proofs.counter_cells.in_paras.Given as goal

abbrev pub invariant-loop-para : goal.invariant-loop-para
invariant-loop-para l = left_at l.statement (count_homes (paras_statements (plain_paras (drop l.para-index l.paras)))) l.left
    ≡ left_at l.statement (count_homes (paras_statements (plain_paras l.paras))) l.fn.left
