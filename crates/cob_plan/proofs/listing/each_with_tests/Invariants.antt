use Rattle.std.proofs.Common.{◌≡◌, ◌++◌, map, drop}
use Rattle.cob_program.specs.Statements.{plain_references}
use Rattle.cob_plan.specs.Listing.{plain_statements, listed_at}
use Rattle.cob_plan.proofs.listing.each_with_tests.Given as goal

abbrev pub invariant-loop-statement : goal.invariant-loop-statement
invariant-loop-statement l =
    plain_statements l.all.items ++ map listed_at (plain_references (drop l.statement-index l.statements))
    ≡ map listed_at (plain_references l.initial.statements)
