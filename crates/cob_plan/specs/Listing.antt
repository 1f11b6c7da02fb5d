-- The statements of a program in the order of their numbers, each with its simple conditions.
use Rattle.std.specs.Prelude.{ℕ, List, map}
use Rattle.std.specs.Borrow.{Bor}
use Rattle.cob_program.specs.declared.logic.Test as declared_test
use Rattle.cob_program.specs.LogicView.{plain_test}
use Rattle.cob_program.specs.Logic.{Test}
use Rattle.cob_program.specs.ActView.{plain_act}
use Rattle.cob_program.specs.Act.{Stmt, MkStmt, Act, When, MkWhen, Program}
use Rattle.cob_program.specs.Statements.{program_statements}
use Rattle.cob_runs.specs.Effects.{tests_in_list, tests_in_act}
use Rattle.cob_plan.specs.declared.statement.Statement.{Statement}

pub record Listed : Type 0 where
  pub number : ℕ
  pub act : Act
  pub tests : List Test

abbrev pub plain_tests : List (Bor declared_test.Test) → List Test
plain_tests ts = map (λ t. plain_test t.now) ts

-- The tests of a WHEN.
abbrev pub tests_in_when : When → List Test
tests_in_when (MkWhen tests ss) = tests_in_list tests

abbrev pub plain_statement : Statement → Listed
plain_statement s = record {
  number = s.number;
  act = plain_act s.act.now;
  tests = plain_tests s.tests.items;
}

abbrev pub plain_statements : List Statement → List Listed
plain_statements ss = map plain_statement ss

abbrev pub listed_one : ℕ → Act → Listed
listed_one number a = record { number = number; act = a; tests = tests_in_act a }

abbrev pub listed_at : Stmt → Listed
listed_at (MkStmt number line a) = listed_one number a

-- each statement stands before those of its own lists
abbrev pub listed : Program → List Listed
listed p = map listed_at (program_statements p)
