-- Steps of the loops over statements, WHENs and paragraphs.
use Rattle.std.proofs.Common.{◌≡◌, ℕ, ◌+◌, ◌<◌, List, ◌++◌, length, get_or, drop, refl, sym, ap, ◌∙◌}
use Rattle.cob_program.specs.declared.act.Stmt as declared_stmt
use Rattle.cob_program.specs.declared.act.Stmt.{out-Stmt}
use Rattle.cob_program.specs.declared.act.Act.TheFolds.{fold_out-Stmt}
use Rattle.cob_program.specs.declared.act.When as declared_when
use Rattle.cob_program.specs.declared.program.Para as declared_para
use Rattle.cob_program.specs.Act.{MkStmt, Phrase, left_out, given, Act, arith, if_, evaluate, perform, read}
use Rattle.cob_program.specs.ActView.{plain_act, plain_stmt, plain_stmts, plain_when, plain_whens, plain_para, plain_paras}
use Rattle.cob_program.specs.Statements.{list_statements, with_inner_statements, phrase_statements, inner_statements, whens_statements, when_statements, para_statements, paras_statements}
use Rattle.cob_program.proofs.Loops.{item_step}
use Rattle.cob_graph.specs.declared.homes.Home.{Home}
use Rattle.cob_graph.specs.Homes.{act_homes, stmt_homes, count_homes}
use Rattle.cob_graph.specs.Numbers.{list_homes, phrase_homes, inner_homes}
use Rattle.cob_graph.proofs.LeftLemmas.{homes_append}

abbrev pub statements_from : List declared_stmt.Stmt → ℕ → List Home
statements_from xs i = count_homes (list_statements (plain_stmts (drop i xs)))

abbrev pub whens_from : List declared_when.When → ℕ → List Home
whens_from xs i = count_homes (whens_statements (plain_whens (drop i xs)))

abbrev pub paras_from : List declared_para.Para → ℕ → List Home
paras_from xs i = count_homes (paras_statements (plain_paras (drop i xs)))

pub statement_first : (xs : List declared_stmt.Stmt) (i : ℕ) (x : declared_stmt.Stmt) → i < length xs → x ≡ get_or xs i x →
    statements_from xs i ≡ count_homes (with_inner_statements (plain_stmt x)) ++ statements_from xs (i + 1)
statement_first xs i x within is = ap (λ ys. count_homes (list_statements (plain_stmts ys))) (item_step xs i x within is)
    ∙ homes_append (with_inner_statements (plain_stmt x)) (list_statements (plain_stmts (drop (i + 1) xs)))

pub when_first : (xs : List declared_when.When) (i : ℕ) (x : declared_when.When) → i < length xs → x ≡ get_or xs i x →
    whens_from xs i ≡ count_homes (when_statements (plain_when x)) ++ whens_from xs (i + 1)
when_first xs i x within is = ap (λ ys. count_homes (whens_statements (plain_whens ys))) (item_step xs i x within is)
    ∙ homes_append (when_statements (plain_when x)) (whens_statements (plain_whens (drop (i + 1) xs)))

pub para_first : (xs : List declared_para.Para) (i : ℕ) (x : declared_para.Para) → i < length xs → x ≡ get_or xs i x →
    paras_from xs i ≡ count_homes (para_statements (plain_para x)) ++ paras_from xs (i + 1)
para_first xs i x within is = ap (λ ys. count_homes (paras_statements (plain_paras ys))) (item_step xs i x within is)
    ∙ homes_append (para_statements (plain_para x)) (paras_statements (plain_paras (drop (i + 1) xs)))

-- ---- a statement and its lists

phrase_is : (f : Phrase) → count_homes (phrase_statements f) ≡ phrase_homes f
phrase_is left_out = refl
phrase_is (given ss) = refl

inner_is : (a : Act) → count_homes (inner_statements a) ≡ inner_homes a
inner_is (arith s targets remainder size fine) = homes_append (phrase_statements size) (list_statements fine)
    ∙ ap (λ hs. hs ++ list_homes fine) (phrase_is size)
inner_is (if_ t held other) = homes_append (list_statements held) (list_statements other)
inner_is (evaluate ws other) = homes_append (whens_statements ws) (list_statements other)
inner_is (perform body turns) = refl
inner_is (read f into end fine) = homes_append (phrase_statements end) (list_statements fine)
    ∙ ap (λ hs. hs ++ list_homes fine) (phrase_is end)
inner_is _ = refl

stmt_is : (s : declared_stmt.Stmt) →
    plain_stmt s ≡ MkStmt (out-Stmt s).number (out-Stmt s).line (plain_act (out-Stmt s).act)
stmt_is s = fold_out-Stmt _ _ _ _ _ _ _ _ s

pub statement_cut : (s : declared_stmt.Stmt) → count_homes (with_inner_statements (plain_stmt s))
    ≡ stmt_homes (plain_stmt s) ++ inner_homes (plain_act (out-Stmt s).act)
statement_cut s =
    ap (λ x. count_homes (with_inner_statements x)) (stmt_is s)
    ∙ (ap (λ hs. act_homes (out-Stmt s).number (plain_act (out-Stmt s).act) ++ hs) (inner_is (plain_act (out-Stmt s).act))
    ∙ ap (λ x. stmt_homes x ++ inner_homes (plain_act (out-Stmt s).act)) (sym (stmt_is s)))
