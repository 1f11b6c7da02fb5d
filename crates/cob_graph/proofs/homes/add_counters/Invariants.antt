use Rattle.std.proofs.Common.{◌≡◌, ◌++◌, drop}
use Rattle.cob_program.specs.Statements.{plain_references}
use Rattle.cob_graph.specs.Homes.{count_homes}
use Rattle.cob_graph.proofs.homes.add_counters.Given as goal

abbrev pub invariant-loop-statement : goal.invariant-loop-statement
invariant-loop-statement l = l.homes.items ++ count_homes (plain_references (drop l.statement-index l.statements))
    ≡ l.initial.homes.items ++ count_homes (plain_references l.initial.statements)
