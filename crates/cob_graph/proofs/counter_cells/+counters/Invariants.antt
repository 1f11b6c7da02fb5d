use Rattle.std.proofs.Common.{◌≡◌, drop}
use Rattle.cob_program.specs.ActView.{plain_stmts, plain_whens}
use Rattle.cob_program.specs.Statements.{list_statements, whens_statements}
use Rattle.cob_graph.specs.Homes.{count_homes}
use Rattle.cob_graph.specs.Numbers.{left_at}
use Rattle.cob_graph.proofs.counter_cells.+counters.Given as goal

abbrev pub invariant-in_list-loop-here : goal.invariant-in_list-loop-here
invariant-in_list-loop-here l =
    left_at l.statement (count_homes (list_statements (plain_stmts (drop l.here-index l.list)))) l.left
    ≡ left_at l.statement (count_homes (list_statements (plain_stmts l.list))) l.fn.left

abbrev pub invariant-in_whens-loop-when : goal.invariant-in_whens-loop-when
invariant-in_whens-loop-when l =
    left_at l.statement (count_homes (whens_statements (plain_whens (drop l.when-index l.whens)))) l.left
    ≡ left_at l.statement (count_homes (whens_statements (plain_whens l.whens))) l.fn.left
