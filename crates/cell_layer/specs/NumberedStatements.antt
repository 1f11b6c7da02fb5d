-- What a statement does, and its number.
use Rattle.std.specs.Prelude.{ℕ}
use Rattle.cob_program.specs.Act.{Stmt, MkStmt, Act}

abbrev pub number_in : Stmt → ℕ
number_in (MkStmt number line a) = number

abbrev pub act_in : Stmt → Act
act_in (MkStmt number line a) = a
