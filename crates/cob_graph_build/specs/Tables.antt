-- Tables of performed ranges, the last one that was added first: each range performs only those behind it.
use Rattle.std.specs.Prelude.{◌≡◌, min, ℕ, zero, suc, ◌-◌, ◌==◌, ◌&&◌, if◌then◌else◌, Bool, true, List, [], ◌∷◌, length, Option, Some, None, is_some}
use Rattle.std.specs.Option.{option_map_or}
use Rattle.cob_program.specs.Act.{Stmt, MkStmt, Stmts, no_stmts, more_stmts, Phrase, left_out, given, Act, move, arith, if_, evaluate, perform, go, nothing, stop, open_files, close_files, read, write, show, Whens, no_whens, more_whens, MkWhen, Body, range, inline, Program}
use Rattle.cob_runs.specs.Steps.{body_at}
use Rattle.cob_graph_build.specs.declared.counting.Entry.{Entry}
use Rattle.cob_graph.specs.Laid.{Laid, MkLaid, LaidList, no_laid, more_laid, LaidPhrase, no_phrase, a_phrase, LaidAct, moving, showing, skipping, going, ending, computing, deciding, choosing, performing, opening, closing, reading, writing, LaidWhens, no_laid_whens, more_laid_whens, LaidBody, own_list, copy, LaidParas, no_laid_paras, more_laid_paras, list_size, paras_size}
use Rattle.cob_graph.specs.Copies.{file_of}
use Rattle.cob_graph.specs.Limits.{most_told}
use Rattle.cob_graph_build.specs.Sizes.{range_size, range_fits}

-- ---- statements with copies written in

module _ (p : Program) (copies : ℕ → ℕ → LaidParas) where
  abbrev mutual
    pub lay_stmt : Stmt → Laid
    lay_stmt (MkStmt number line a) = MkLaid number (lay_act a)

    pub lay_list : Stmts → LaidList
    lay_list no_stmts = no_laid
    lay_list (more_stmts s ss) = more_laid (lay_stmt s) (lay_list ss)

    pub lay_phrase : Phrase → LaidPhrase
    lay_phrase left_out = no_phrase
    lay_phrase (given ss) = a_phrase (lay_list ss)

    pub lay_act : Act → LaidAct
    lay_act (move x places) = moving
    lay_act (arith s targets remainder size fine) = computing (lay_phrase size) (lay_list fine)
    lay_act (if_ t held other) = deciding t (lay_list held) (lay_list other)
    lay_act (evaluate ws other) = choosing (lay_whens ws) (lay_list other)
    lay_act (perform body turns) = performing (lay_body body) turns
    lay_act (go to) = going to
    lay_act nothing = skipping
    lay_act stop = ending
    lay_act (open_files os) = opening os
    lay_act (close_files fs) = closing fs
    lay_act (read f into end fine) = reading f (is_some into) (lay_phrase end) (lay_list fine)
    lay_act (write r from) = writing (file_of p r) (is_some from)
    lay_act (show xs) = showing

    pub lay_whens : Whens → LaidWhens
    lay_whens no_whens = no_laid_whens
    lay_whens (more_whens (MkWhen ts ss) ws) = more_laid_whens ts (lay_list ss) (lay_whens ws)

    pub lay_body : Body → LaidBody
    lay_body (range first last) = copy first (copies first last)
    lay_body (inline ss) = own_list (lay_list ss)

  -- The paragraphs from one on, so many, laid.
  abbrev pub lay_paras : ℕ → ℕ → LaidParas
  lay_paras from zero = no_laid_paras
  lay_paras from (suc n) = more_laid_paras (lay_list (body_at p from)) (lay_paras (suc from) n)

-- ---- tables

abbrev pub is_for : Entry → ℕ → ℕ → Bool
is_for e first last = (e.first == first) && (e.last == last)

-- the told size of a range
abbrev pub told_size : List Entry → ℕ → ℕ → Option ℕ
told_size [] first last = None
told_size (e ∷ es) first last = if is_for e first last then Some e.size else told_size es first last

abbrev pub size_in : List Entry → ℕ → ℕ → ℕ
size_in es first last = option_map_or (λ n. n) (told_size es first last) 0

abbrev pub is_in : List Entry → ℕ → ℕ → Bool
is_in es first last = is_some (told_size es first last)

-- the copy of a range
abbrev pub copy_in : Program → List Entry → ℕ → ℕ → LaidParas
copy_in p [] first last = no_laid_paras
copy_in p (e ∷ es) first last =
    if is_for e first last then lay_paras p (copy_in p es) first (suc last - first) else copy_in p es first last

-- whether an entry, behind which others stand, can be copied from them and has the size that they tell
abbrev pub is_entry : Program → List Entry → Entry → Bool
is_entry p es e =
    range_fits (is_in es) e.first e.last p e.first (suc e.last - e.first)
    && (e.size == min (range_size (size_in es) p e.first (suc e.last - e.first)) most_told)

abbrev pub is_table : Program → List Entry → Bool
is_table p [] = true
is_table p (e ∷ es) = is_entry p es e && is_table p es

abbrev pub IsTable : Program → List Entry → Type 0
IsTable p es = is_table p es ≡ true

-- the table behind a range's entry
abbrev pub rest_in : List Entry → ℕ → ℕ → Option (List Entry)
rest_in [] first last = None
rest_in (e ∷ es) first last = if is_for e first last then Some es else rest_in es first last

-- the paragraphs of a program with the copies that a table tells
abbrev pub main_paras : Program → List Entry → LaidParas
main_paras p es = lay_paras p (copy_in p es) 0 (length p.paras)
