use Rattle.std.proofs.Common.{◌≡◌, drop}
use Rattle.cob_program.specs.Statements.{plain_references}
use Rattle.cob_graph_build.specs.Sizes.{all_fit}
use Rattle.cob_graph_build.specs.Tables.{is_in}
use Rattle.cob_graph_build.proofs.counting.all_fit.Given as goal

abbrev pub invariant-loop-statement : goal.invariant-loop-statement
invariant-loop-statement l =
    all_fit (is_in l.table) l.lo l.hi (plain_references (drop l.statement-index l.statements))
    ≡ all_fit (is_in l.table) l.lo l.hi (plain_references l.initial.statements)
