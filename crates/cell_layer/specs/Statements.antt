-- Statements by their numbers.
use Rattle.std.specs.Prelude.{◌≡◌, ℕ, List, map, Contains}
use Rattle.cob_program.specs.ActView.{plain_stmt}
use Rattle.cob_program.specs.Act.{Stmt}
use Rattle.edge_parts.specs.declared.statement_tests.StatementTests.{StatementTests}
use Rattle.cell_layer.specs.NumberedStatements.{number_in}

-- a statement whose simple conditions are listed
abbrev pub stated : StatementTests → Stmt
stated s = plain_stmt s.statement.now

abbrev pub stated_in : List StatementTests → List Stmt
stated_in ss = map stated ss

-- one of the statements, with the number
abbrev pub IsNumbered : List StatementTests → ℕ → StatementTests → Type 0
IsNumbered statements number s = Contains statements s × (number_in (stated s) ≡ number)
