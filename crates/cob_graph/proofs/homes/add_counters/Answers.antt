use Rattle.std.proofs.Common.{◌+◌, ap, drop}
use Rattle.std.proofs.lemmas.List.{drop_all}
use Rattle.cob_program.specs.Statements.{plain_references}
use Rattle.cob_program.proofs.Loops.{item_step, added, nothing_left}
use Rattle.cob_graph.specs.Homes.{count_homes}
use Rattle.cob_graph.proofs.homes.add_counters.Goals as goal

pub loop-statement-preserved : goal.loop-statement-preserved
loop-statement-preserved c =
    let l = c.loop-statement in
    added _ _ _ (count_homes (plain_references (drop (l.statement-index + 1) c.args.statements.now))) _ _ c.in_ok-add_statement.ensures
    (ap (λ xs. count_homes (plain_references xs))
    (item_step c.args.statements.now l.statement-index c.statement-item.result c.loop-statement-test.true c.statement-item.is))
    l.invariant

pub returns : goal.returns
returns c =
    let l = c.loop-statement in
    nothing_left _ _ (count_homes (plain_references (drop l.statement-index c.args.statements.now)))
    (ap (λ xs. count_homes (plain_references xs)) (drop_all l.statement-index c.args.statements.now c.loop-statement-test.false))
    l.invariant
