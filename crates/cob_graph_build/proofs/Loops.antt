-- What the loops over lists of statements, WHENs and conditions have left.
use Rattle.std.proofs.Common.{ℕ, List, drop}
use Rattle.cob_program.specs.declared.act.Stmt as declared_stmt
use Rattle.cob_program.specs.declared.act.When as declared_when
use Rattle.cob_program.specs.declared.logic.Logic as declared_logic
use Rattle.cob_program.specs.Logic.{Logics}
use Rattle.cob_program.specs.LogicView.{plain_logics}
use Rattle.cob_program.specs.Act.{Stmts, Whens}
use Rattle.cob_program.specs.ActView.{plain_stmts, plain_whens}

abbrev pub stmts_from : List declared_stmt.Stmt → ℕ → Stmts
stmts_from xs i = plain_stmts (drop i xs)

abbrev pub whens_from : List declared_when.When → ℕ → Whens
whens_from xs i = plain_whens (drop i xs)

abbrev pub logics_from : List declared_logic.Logic → ℕ → Logics
logics_from xs i = plain_logics (drop i xs)
