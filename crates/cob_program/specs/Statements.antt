-- The statements of a program in the order of the source, each before the statements of its own lists.
use Rattle.std.specs.Prelude.{List, [], ◌∷◌, ◌++◌, map}
use Rattle.std.specs.Borrow.{Bor}
use Rattle.cob_program.specs.declared.act.Stmt as declared_stmt
use Rattle.cob_program.specs.ActView.{plain_stmt}
use Rattle.cob_program.specs.Act.{Stmt, MkStmt, Stmts, no_stmts, more_stmts, Phrase, left_out, given, Act, arith, if_, evaluate, perform, read, Whens, no_whens, more_whens, When, MkWhen, Body, range, inline, Para, Program}

abbrev mutual
  pub list_statements : Stmts → List Stmt
  list_statements no_stmts = []
  list_statements (more_stmts s ss) = with_inner_statements s ++ list_statements ss

  pub with_inner_statements : Stmt → List Stmt
  with_inner_statements (MkStmt number line a) = MkStmt number line a ∷ inner_statements a

  pub phrase_statements : Phrase → List Stmt
  phrase_statements left_out = []
  phrase_statements (given ss) = list_statements ss

  -- the statements of what a statement does, without itself
  pub inner_statements : Act → List Stmt
  inner_statements (arith s targets remainder size fine) = phrase_statements size ++ list_statements fine
  inner_statements (if_ t held other) = list_statements held ++ list_statements other
  inner_statements (evaluate ws other) = whens_statements ws ++ list_statements other
  inner_statements (perform body turns) = body_statements body
  inner_statements (read f into end fine) = phrase_statements end ++ list_statements fine
  inner_statements _ = []

  pub whens_statements : Whens → List Stmt
  whens_statements no_whens = []
  whens_statements (more_whens w ws) = when_statements w ++ whens_statements ws

  pub when_statements : When → List Stmt
  when_statements (MkWhen ts ss) = list_statements ss

  pub body_statements : Body → List Stmt
  body_statements (range first last) = []
  body_statements (inline ss) = list_statements ss

abbrev pub para_statements : Para → List Stmt
para_statements x = list_statements x.body

abbrev pub paras_statements : List Para → List Stmt
paras_statements [] = []
paras_statements (x ∷ xs) = para_statements x ++ paras_statements xs

abbrev pub program_statements : Program → List Stmt
program_statements p = paras_statements p.paras

-- what contracts see of references to statements
abbrev pub plain_references : List (Bor declared_stmt.Stmt) → List Stmt
plain_references xs = map (λ x. plain_stmt x.now) xs
