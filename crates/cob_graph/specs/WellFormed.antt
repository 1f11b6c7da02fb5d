-- Programs whose statements have what the grammar gives them.
use Rattle.std.specs.Prelude.{◌≡◌, ◌≤◌, true, List, [], ◌∷◌, length, Some, is_some}
use Rattle.cob_program.specs.Logic.{Logic, all_of, any_of, not_, test, Logics, no_logics, more_logics}
use Rattle.cob_program.specs.Act.{Turns, until, varying, MkStmt, Stmts, no_stmts, more_stmts, Phrase, left_out, given, Act, arith, if_, evaluate, perform, open_files, close_files, read, write, Whens, no_whens, more_whens, MkWhen, Body, range, inline, Para, Program}
use Rattle.cob_runs.specs.Acts.{file_from}
use Rattle.cob_runs.specs.Effects.{act_at}

abbrev mutual
  -- a condition begins with a simple condition, as none of its lists is empty
  pub Begins : Logic → Type 0
  Begins (all_of ls) = FirstBegins ls
  Begins (any_of ls) = FirstBegins ls
  Begins (not_ x) = Begins x
  Begins (test t) = Unit {0}

  pub FirstBegins : Logics → Type 0
  FirstBegins no_logics = ⊥
  FirstBegins (more_logics x xs) = Begins x

abbrev pub IsWellFormedTurns : Turns → Type 0
IsWellFormedTurns (until after t) = Begins t
IsWellFormedTurns (varying after item start by t) = Begins t
IsWellFormedTurns _ = Unit {0}

abbrev mutual
  -- each condition begins with a simple condition, OPEN and CLOSE name a file, WRITE a file's record, and each
  -- statement is found by its number
  pub AreWellFormed : Program → Stmts → Type 0
  AreWellFormed p no_stmts = Unit {0}
  AreWellFormed p (more_stmts (MkStmt n line a) ss) = (act_at p n ≡ Some a) × IsWellFormedAct p a × AreWellFormed p ss

  pub IsWellFormedPhrase : Program → Phrase → Type 0
  IsWellFormedPhrase p left_out = Unit {0}
  IsWellFormedPhrase p (given ss) = AreWellFormed p ss

  pub IsWellFormedAct : Program → Act → Type 0
  IsWellFormedAct p (arith s targets remainder size fine) = IsWellFormedPhrase p size × AreWellFormed p fine
  IsWellFormedAct p (if_ t held other) = Begins t × AreWellFormed p held × AreWellFormed p other
  IsWellFormedAct p (evaluate ws other) = AreWellFormedWhens p ws × AreWellFormed p other
  IsWellFormedAct p (perform body turns) = IsWellFormedTurns turns × IsWellFormedBody p body
  IsWellFormedAct p (open_files os) = 1 ≤ length os
  IsWellFormedAct p (close_files fs) = 1 ≤ length fs
  IsWellFormedAct p (read f into end fine) = IsWellFormedPhrase p end × AreWellFormed p fine
  IsWellFormedAct p (write r from) = is_some (file_from p.layout 0 p.layout.files r) ≡ true
  IsWellFormedAct p _ = Unit {0}

  pub AreWellFormedWhens : Program → Whens → Type 0
  AreWellFormedWhens p no_whens = Unit {0}
  AreWellFormedWhens p (more_whens (MkWhen ts ss) ws) = AreWellFormed p ss × AreWellFormedWhens p ws

  pub IsWellFormedBody : Program → Body → Type 0
  IsWellFormedBody p (range first last) = Unit {0}
  IsWellFormedBody p (inline ss) = AreWellFormed p ss

abbrev pub AreWellFormedParas : Program → List Para → Type 0
AreWellFormedParas p [] = Unit {0}
AreWellFormedParas p (x ∷ xs) = AreWellFormed p x.body × AreWellFormedParas p xs

abbrev pub IsWellFormed : Program → Type 0
IsWellFormed p = AreWellFormedParas p p.paras
