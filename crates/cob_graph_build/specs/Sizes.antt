-- How many nodes the statements of a program have, where the number for each performed range is given, and what a
-- copy of them needs: that each performed range is known, and that each GO TO goes to a paragraph of the copy.
use Rattle.std.specs.Prelude.{ℕ, zero, suc, ◌+◌, ◌-◌, ◌==◌, ◌&&◌, nat_le, if◌then◌else◌, Bool, true, false, List, [], ◌∷◌, Option, Some, None, is_some}
use Rattle.std.specs.Option.{option_map_or}
use Rattle.cob_program.specs.Logic.{logics_of}
use Rattle.cob_program.specs.Act.{Stmt, MkStmt, Stmts, no_stmts, more_stmts, Phrase, left_out, given, Act, arith, if_, evaluate, perform, go, open_files, close_files, read, write, Whens, no_whens, more_whens, When, MkWhen, Body, range, inline, Program}
use Rattle.cob_program.specs.Statements.{list_statements}
use Rattle.cob_runs.specs.Steps.{body_at}
use Rattle.cob_graph.specs.Laid.{tests_in, tests_among, one_if, how_many, loop_nodes}

module _ (of_range : ℕ → ℕ → ℕ) where
  abbrev mutual
    pub stmt_size : Stmt → ℕ
    stmt_size (MkStmt number line a) = stmt_act_size a

    pub stmts_size : Stmts → ℕ
    stmts_size no_stmts = 0
    stmts_size (more_stmts s ss) = stmt_size s + stmts_size ss

    pub list_size_if : Phrase → ℕ
    list_size_if left_out = 0
    list_size_if (given ss) = stmts_size ss

    pub stmt_act_size : Act → ℕ
    stmt_act_size (arith s targets remainder size fine) = 1 + list_size_if size + stmts_size fine
    stmt_act_size (if_ t held other) = tests_in t + stmts_size held + stmts_size other
    stmt_act_size (evaluate ws other) = 1 + stmt_whens_size ws + stmts_size other
    stmt_act_size (perform body turns) = loop_nodes turns + stmt_body_size body
    stmt_act_size (open_files os) = how_many os
    stmt_act_size (close_files fs) = how_many fs
    stmt_act_size (read f into end fine) = 1 + one_if (is_some into) + list_size_if end + stmts_size fine
    stmt_act_size (write r from) = 1 + one_if (is_some from)
    stmt_act_size _ = 1

    pub when_size : When → ℕ
    when_size (MkWhen ts ss) = tests_among (logics_of ts) + stmts_size ss

    pub stmt_whens_size : Whens → ℕ
    stmt_whens_size no_whens = 0
    stmt_whens_size (more_whens w ws) = when_size w + stmt_whens_size ws

    pub stmt_body_size : Body → ℕ
    stmt_body_size (range first last) = of_range first last
    stmt_body_size (inline ss) = stmts_size ss

  -- The paragraphs from one on, so many.
  abbrev pub range_size : Program → ℕ → ℕ → ℕ
  range_size p from zero = 0
  range_size p from (suc n) = stmts_size (body_at p from) + range_size p (suc from) n

module _ (is_known : ℕ → ℕ → Bool) (lo hi : ℕ) where
  -- A statement's own range, without the statements of its lists.
  abbrev pub body_fits : Body → Bool
  body_fits (range first last) = is_known first last
  body_fits (inline ss) = true

  abbrev pub act_fits : Act → Bool
  act_fits (perform body turns) = body_fits body
  act_fits (go to) = nat_le lo to && nat_le to hi
  act_fits _ = true

  abbrev pub stmt_fits : Stmt → Bool
  stmt_fits (MkStmt number line a) = act_fits a

  abbrev pub all_fit : List Stmt → Bool
  all_fit [] = true
  all_fit (s ∷ ss) = stmt_fits s && all_fit ss

  -- The paragraphs from one on, so many.
  abbrev pub range_fits : Program → ℕ → ℕ → Bool
  range_fits p from zero = true
  range_fits p from (suc n) = all_fit (list_statements (body_at p from)) && range_fits p (suc from) n
