use Rattle.cob_program.specs.ActView.{plain_program}
use Rattle.cob_graph_build.specs.Tables.{IsTable}
use Rattle.cob_graph_build.proofs.counting.add_all.Given as goal

abbrev pub invariant-loop : goal.invariant-loop
invariant-loop l = IsTable (plain_program l.program) l.initial.table.items →
    IsTable (plain_program l.program) l.table.items
