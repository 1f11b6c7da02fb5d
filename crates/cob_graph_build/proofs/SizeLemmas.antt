-- What is counted by a table is what the nodes are.
use Rattle.std.proofs.Common.{ℕ, zero, suc, ◌-◌, ◌≡◌, ◌==◌, ◌&&◌, min, Bool, true, false, List, [], ◌∷◌, ◌++◌, refl, sym, ap, ◌∙◌, if◌then◌else◌, Option, Some, None, is_some, subst, add-one, ◌+◌}
use Rattle.std.specs.Option.{option_map_or}
use Rattle.std.proofs.lemmas.Bool.{and_parts, and_from, leb-true, eqb-true, eq-eqb}
use Rattle.cob_program.specs.Logic.{logics_of}
use Rattle.cob_program.specs.Act.{Stmt, MkStmt, Stmts, no_stmts, more_stmts, Phrase, left_out, given, Act, move, arith, if_, evaluate, perform, go, nothing, stop, open_files, close_files, read, write, show, Whens, no_whens, more_whens, MkWhen, Body, range, inline, Program}
use Rattle.cob_program.specs.Statements.{list_statements, with_inner_statements, phrase_statements, inner_statements, whens_statements, body_statements}
use Rattle.cob_runs.specs.Steps.{body_at}
use Rattle.cob_graph_build.specs.declared.counting.Entry.{Entry}
use Rattle.cob_graph.specs.Laid.{LaidParas, no_laid_paras, tests_in, tests_among, loop_nodes, one_if, size, list_size, phrase_size, act_size, whens_size, body_size, paras_size}
use Rattle.cob_graph.specs.Copies.{IsLaid, AreLaid, IsLaidPhrase, IsLaidAct, AreLaidWhens, IsLaidBody, AreLaidParas}
use Rattle.cob_graph.specs.Limits.{most_told}
use Rattle.cob_graph_build.specs.Sizes.{stmt_size, stmts_size, list_size_if, stmt_act_size, when_size, stmt_whens_size, stmt_body_size, range_size, stmt_fits, act_fits, body_fits, all_fit, range_fits}
use Rattle.cob_graph_build.proofs.Cuts.{Alike, alike_sum, alike_more, twice_cut}
use Rattle.cob_graph_build.specs.Tables.{lay_stmt, lay_list, lay_phrase, lay_act, lay_whens, lay_body, lay_paras, is_for, told_size, size_in, is_in, copy_in, rest_in, is_entry, is_table, IsTable}

module _ (p : Program) (cap : ℕ) (g : ℕ → ℕ → ℕ) (copies : ℕ → ℕ → LaidParas) (same : (first last : ℕ) →
    Alike cap (g first last) (paras_size (copies first last))) where
  mutual
    pub alike_stmt : (s : Stmt) → Alike cap (stmt_size g s) (size (lay_stmt p copies s))
    alike_stmt (MkStmt number line a) = alike_act a

    pub alike_list : (ss : Stmts) → Alike cap (stmts_size g ss) (list_size (lay_list p copies ss))
    alike_list no_stmts = refl
    alike_list (more_stmts s ss) = alike_sum cap (stmt_size g s) (size (lay_stmt p copies s)) (stmts_size g ss)
        (list_size (lay_list p copies ss)) (alike_stmt s) (alike_list ss)

    pub alike_phrase : (x : Phrase) → Alike cap (list_size_if g x) (phrase_size (lay_phrase p copies x))
    alike_phrase left_out = refl
    alike_phrase (given ss) = alike_list ss

    pub alike_act : (a : Act) → Alike cap (stmt_act_size g a) (act_size (lay_act p copies a))
    alike_act (move x places) = refl
    alike_act (arith s targets remainder x fine) =
        alike_sum cap (1 + list_size_if g x) (1 + phrase_size (lay_phrase p copies x)) (stmts_size g fine)
        (list_size (lay_list p copies fine))
        (alike_more cap 1 (list_size_if g x) (phrase_size (lay_phrase p copies x)) (alike_phrase x)) (alike_list fine)
    alike_act (if_ t held other) =
        alike_sum cap (tests_in t + stmts_size g held) (tests_in t + list_size (lay_list p copies held))
        (stmts_size g other) (list_size (lay_list p copies other))
        (alike_more cap (tests_in t) (stmts_size g held) (list_size (lay_list p copies held)) (alike_list held))
        (alike_list other)
    alike_act (evaluate ws other) =
        alike_sum cap (1 + stmt_whens_size g ws) (1 + whens_size (lay_whens p copies ws)) (stmts_size g other)
        (list_size (lay_list p copies other))
        (alike_more cap 1 (stmt_whens_size g ws) (whens_size (lay_whens p copies ws)) (alike_whens ws)) (alike_list other)
    alike_act (perform body turns) = alike_more cap (loop_nodes turns) (stmt_body_size g body)
        (body_size (lay_body p copies body)) (alike_body body)
    alike_act (go to) = refl
    alike_act nothing = refl
    alike_act stop = refl
    alike_act (open_files os) = refl
    alike_act (close_files fs) = refl
    alike_act (read f into x fine) =
        alike_sum cap (1 + one_if (is_some into) + list_size_if g x)
        (1 + one_if (is_some into) + phrase_size (lay_phrase p copies x)) (stmts_size g fine)
        (list_size (lay_list p copies fine))
        (alike_more cap (1 + one_if (is_some into)) (list_size_if g x) (phrase_size (lay_phrase p copies x))
        (alike_phrase x)) (alike_list fine)
    alike_act (write r from) = refl
    alike_act (show xs) = refl

    pub alike_whens : (ws : Whens) → Alike cap (stmt_whens_size g ws) (whens_size (lay_whens p copies ws))
    alike_whens no_whens = refl
    alike_whens (more_whens (MkWhen ts ss) ws) =
        alike_sum cap (tests_among (logics_of ts) + stmts_size g ss)
        (tests_among (logics_of ts) + list_size (lay_list p copies ss)) (stmt_whens_size g ws)
        (whens_size (lay_whens p copies ws))
        (alike_more cap (tests_among (logics_of ts)) (stmts_size g ss) (list_size (lay_list p copies ss))
        (alike_list ss)) (alike_whens ws)

    pub alike_body : (b : Body) → Alike cap (stmt_body_size g b) (body_size (lay_body p copies b))
    alike_body (range first last) = same first last
    alike_body (inline ss) = alike_list ss

  pub alike_paras : (n from : ℕ) → Alike cap (range_size g p from n) (paras_size (lay_paras p copies from n))
  alike_paras zero from = refl
  alike_paras (suc n) from =
      alike_sum cap (stmts_size g (body_at p from)) (list_size (lay_list p copies (body_at p from)))
      (range_size g p (suc from) n) (paras_size (lay_paras p copies (suc from) n))
      (alike_list (body_at p from)) (alike_paras n (suc from))

-- ---- what fits is laid

-- two lists that fit together
fit_parts : (known : ℕ → ℕ → Bool) (lo hi : ℕ) (xs ys : List Stmt) → all_fit known lo hi (xs ++ ys) ≡ true →
    (all_fit known lo hi xs ≡ true) × (all_fit known lo hi ys ≡ true)
fit_parts known lo hi [] ys h = (refl, h)
fit_parts known lo hi (x ∷ xs) ys h =
    let parts = and_parts (stmt_fits known lo hi x) (all_fit known lo hi (xs ++ ys)) h in
    let more = fit_parts known lo hi xs ys parts.1 in
    (and_from (stmt_fits known lo hi x) (all_fit known lo hi xs) parts.0 more.0, more.1)

module _ (p : Program) (known : ℕ → ℕ → Bool) (copies : ℕ → ℕ → LaidParas)
    (are : (first last : ℕ) → known first last ≡ true →
    AreLaidParas p first last first (suc last - first) (copies first last)) (lo hi : ℕ) where
  abbrev AllFit : List Stmt → Type 0
  AllFit ss = all_fit known lo hi ss ≡ true

  two : (xs ys : List Stmt) → AllFit (xs ++ ys) → AllFit xs × AllFit ys
  two xs ys h = fit_parts known lo hi xs ys h

  mutual
    laid_stmt : (s : Stmt) → AllFit (with_inner_statements s) → IsLaid p lo hi s (lay_stmt p copies s)
    laid_stmt (MkStmt number line a) h =
        let parts = and_parts (act_fits known lo hi a) (all_fit known lo hi (inner_statements a)) h in
        (refl, laid_act a parts.0 parts.1)

    laid_list : (ss : Stmts) → AllFit (list_statements ss) → AreLaid p lo hi ss (lay_list p copies ss)
    laid_list no_stmts h = tt
    laid_list (more_stmts s ss) h = let parts = two (with_inner_statements s) (list_statements ss) h in
        (laid_stmt s parts.0, laid_list ss parts.1)

    laid_phrase : (x : Phrase) → AllFit (phrase_statements x) → IsLaidPhrase p lo hi x (lay_phrase p copies x)
    laid_phrase left_out h = tt
    laid_phrase (given ss) h = laid_list ss h

    laid_act : (a : Act) → act_fits known lo hi a ≡ true → AllFit (inner_statements a) →
        IsLaidAct p lo hi a (lay_act p copies a)
    laid_act (move x places) own h = refl
    laid_act (arith s targets remainder x fine) own h =
        let parts = two (phrase_statements x) (list_statements fine) h in
        (laid_phrase x parts.0, laid_list fine parts.1)
    laid_act (if_ t held other) own h =
        let parts = two (list_statements held) (list_statements other) h in
        (refl, laid_list held parts.0, laid_list other parts.1)
    laid_act (evaluate ws other) own h =
        let parts = two (whens_statements ws) (list_statements other) h in
        (laid_whens ws parts.0, laid_list other parts.1)
    laid_act (perform body turns) own h = (refl, laid_body body own h)
    laid_act (go to) own h = let parts = and_parts _ _ own in (refl, leb-true lo to parts.0, leb-true to hi parts.1)
    laid_act nothing own h = refl
    laid_act stop own h = refl
    laid_act (open_files os) own h = refl
    laid_act (close_files fs) own h = refl
    laid_act (read f into x fine) own h =
        let parts = two (phrase_statements x) (list_statements fine) h in
        (refl, refl, laid_phrase x parts.0, laid_list fine parts.1)
    laid_act (write r from) own h = refl
    laid_act (show xs) own h = refl

    laid_whens : (ws : Whens) → AllFit (whens_statements ws) → AreLaidWhens p lo hi ws (lay_whens p copies ws)
    laid_whens no_whens h = tt
    laid_whens (more_whens (MkWhen ts ss) ws) h =
        let parts = two (list_statements ss) (whens_statements ws) h in
        (refl, laid_list ss parts.0, laid_whens ws parts.1)

    laid_body : (b : Body) → body_fits known lo hi b ≡ true → AllFit (body_statements b) →
        IsLaidBody p lo hi b (lay_body p copies b)
    laid_body (range first last) own h = (refl, are first last own)
    laid_body (inline ss) own h = laid_list ss h

  pub laid_paras : (n from : ℕ) → range_fits known lo hi p from n ≡ true →
      AreLaidParas p lo hi from n (lay_paras p copies from n)
  laid_paras zero from h = tt
  laid_paras (suc n) from h =
      let parts = and_parts (all_fit known lo hi (list_statements (body_at p from))) (range_fits known lo hi p (suc from) n) h in
      (laid_list (body_at p from) parts.0, laid_paras n (suc from) parts.1)

-- ---- tables

-- an entry is for its own range
its_own : (e : Entry) (first last : ℕ) (P : ℕ → ℕ → Type 0) → is_for e first last ≡ true → P e.first e.last → P first last
its_own e first last P h x =
    let parts = and_parts (e.first == first) (e.last == last) h in
    let one : P first e.last = subst (λ n. P n e.last) (eqb-true e.first first parts.0) x in
    subst (λ n. P first n) (eqb-true e.last last parts.1) one

some_is : (x y : List Entry) → Some x ≡ Some y → x ≡ y
some_is x y e = cc

-- cases on whether an entry is for a range
entry_cases : (b : Bool) (P : Bool → Type 0) → (b ≡ true → P true) → (b ≡ false → P false) → P b
entry_cases true P yes_ no_ = yes_ refl
entry_cases false P yes_ no_ = no_ refl

-- what a table says
entry_fits : (p : Program) (es : List Entry) (e : Entry) → IsTable p (e ∷ es) →
    range_fits (is_in es) e.first e.last p e.first (suc e.last - e.first) ≡ true
entry_fits p es e h = (and_parts (range_fits (is_in es) e.first e.last p e.first (suc e.last - e.first))
    (e.size == min (range_size (size_in es) p e.first (suc e.last - e.first)) most_told)
    (and_parts (is_entry p es e) (is_table p es) h).0).0

entry_told : (p : Program) (es : List Entry) (e : Entry) → IsTable p (e ∷ es) →
    e.size ≡ min (range_size (size_in es) p e.first (suc e.last - e.first)) most_told
entry_told p es e h =
    eqb-true e.size (min (range_size (size_in es) p e.first (suc e.last - e.first)) most_told)
    (and_parts (range_fits (is_in es) e.first e.last p e.first (suc e.last - e.first))
    (e.size == min (range_size (size_in es) p e.first (suc e.last - e.first)) most_told)
    (and_parts (is_entry p es e) (is_table p es) h).0).1

pub others : (p : Program) (es : List Entry) (e : Entry) → IsTable p (e ∷ es) → IsTable p es
others p es e h = (and_parts (is_entry p es e) (is_table p es) h).1

pub table_sizes : (p : Program) (es : List Entry) → IsTable p es → (first last : ℕ) →
    Alike most_told (size_in es first last) (paras_size (copy_in p es first last))
table_sizes p [] h first last = refl
table_sizes p (e ∷ es) h first last =
    entry_cases (is_for e first last)
    (λ b. Alike most_told (option_map_or (λ n. n) (if b then Some e.size else told_size es first last) 0)
    (paras_size (if b then lay_paras p (copy_in p es) first (suc last - first) else copy_in p es first last)))
    (λ yes_. its_own e first last (λ f l. Alike most_told e.size
    (paras_size (lay_paras p (copy_in p es) f (suc l - f)))) yes_
    (twice_cut e.size (range_size (size_in es) p e.first (suc e.last - e.first)) most_told (entry_told p es e h)
    ∙ alike_paras p most_told (size_in es) (copy_in p es) (table_sizes p es (others p es e h)) (suc e.last - e.first)
    e.first))
    (λ no_. table_sizes p es (others p es e h) first last)

pub table_laid : (p : Program) (es : List Entry) → IsTable p es → (first last : ℕ) → is_in es first last ≡ true →
    AreLaidParas p first last first (suc last - first) (copy_in p es first last)
table_laid p [] h first last = λ it. absurd (cc)
table_laid p (e ∷ es) h first last =
    entry_cases (is_for e first last)
    (λ b. is_some (if b then Some e.size else told_size es first last) ≡ true →
    AreLaidParas p first last first (suc last - first)
    (if b then lay_paras p (copy_in p es) first (suc last - first) else copy_in p es first last))
    (λ yes_ it. its_own e first last (λ f l. AreLaidParas p f l f (suc l - f)
    (lay_paras p (copy_in p es) f (suc l - f))) yes_
    (laid_paras p (is_in es) (copy_in p es) (table_laid p es (others p es e h)) e.first e.last (suc e.last - e.first)
    e.first (entry_fits p es e h)))
    (λ no_ it. table_laid p es (others p es e h) first last it)

-- one more entry
pub one_more : (p : Program) (es : List Entry) (e : Entry) (end : ℕ) → end ≡ e.last + 1 →
    range_fits (is_in es) e.first e.last p e.first (end - e.first) ≡ true →
    e.size ≡ min (range_size (size_in es) p e.first (end - e.first)) most_told → IsTable p es → IsTable p (e ∷ es)
one_more p es e end is fits told rest =
    let till : end ≡ suc e.last = is ∙ add-one e.last in
    and_from (is_entry p es e) (is_table p es)
    (and_from (range_fits (is_in es) e.first e.last p e.first (suc e.last - e.first))
    (e.size == min (range_size (size_in es) p e.first (suc e.last - e.first)) most_told)
    (subst (λ n. range_fits (is_in es) e.first e.last p e.first (n - e.first) ≡ true) till fits)
    (eq-eqb e.size (min (range_size (size_in es) p e.first (suc e.last - e.first)) most_told)
    (told ∙ ap (λ n. min (range_size (size_in es) p e.first (n - e.first)) most_told) till)))
    rest

-- ---- the copy of a range, by the table behind its entry

abbrev pub copy_behind : Program → ℕ → ℕ → Option (List Entry) → LaidParas
copy_behind p first last None = no_laid_paras
copy_behind p first last (Some es) = lay_paras p (copy_in p es) first (suc last - first)

pub copy_is : (p : Program) (es : List Entry) (first last : ℕ) →
    copy_in p es first last ≡ copy_behind p first last (rest_in es first last)
copy_is p [] first last = refl
copy_is p (e ∷ es) first last =
    entry_cases (is_for e first last)
    (λ b. (if b then lay_paras p (copy_in p es) first (suc last - first) else copy_in p es first last) ≡ copy_behind p
    first last (if b then Some es else rest_in es first last))
    (λ yes_. refl) (λ no_. copy_is p es first last)

pub rest_is_table : (p : Program) (es rest : List Entry) (first last : ℕ) → IsTable p es →
    rest_in es first last ≡ Some rest → IsTable p rest
rest_is_table p [] rest first last h = λ it. absurd (cc)
rest_is_table p (e ∷ es) rest first last h =
    entry_cases (is_for e first last) (λ b. (if b then Some es else rest_in es first last) ≡ Some rest → IsTable p rest)
    (λ yes_ it. subst (λ xs. IsTable p xs) (some_is es rest it) (others p es e h))
    (λ no_ it. rest_is_table p es rest first last (others p es e h) it)
