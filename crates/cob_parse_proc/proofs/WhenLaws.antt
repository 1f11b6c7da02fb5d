-- The laws of what stands in EVALUATE.
use Rattle.std.proofs.Common.{◌≡◌, ℕ, ◌<◌, Bool, true, false, List, [], ◌∷◌, ◌++◌, Option, Some, None, is_some, refl, ap, ◌∙◌}
use Rattle.cob_tree.specs.declared.keyword.Keyword.{Keyword}
use Rattle.cob_tree.specs.declared.keyword.Keyword.TheVariants as word
use Rattle.cob_tree.specs.declared.operand.Const.TheVariants as const
use Rattle.cob_tree.specs.declared.operand.Opnd.{Opnd}
use Rattle.cob_tree.specs.declared.operand.Opnd.TheVariants as opnd
use Rattle.cob_tree.specs.Symbols.{Symbol, Sign}
use Rattle.cob_tree.specs.Items.{Item, key}
use Rattle.cob_tree.specs.Cues.{is, Starts}
use Rattle.cob_tree.specs.Expr.{Expr, MkExpr, Term, MkTerm, Fact, MkFact, Primary, operand, group}
use Rattle.cob_tree.specs.Cond.{Cond, MkCond, Conj, MkConj, Neg, MkNeg, Simple, parenthesised, relation, abbreviated, numeric, alone}
use Rattle.cob_tree.specs.Cond as cond
use Rattle.cob_tree.specs.PrintExpr.{print_opnd, print_expr, print_term, print_terms, print_fact, print_facts, print_primary, print_not, print_relation, sign_word, print_cond, print_conj, print_conjs, print_neg, print_negs, print_simple}
use Rattle.cob_tree.specs.Stmt.{Sel, any, range, choice, Stmts, When, MkWhen}
use Rattle.cob_tree.specs.PrintStmt.{print_sel}
use Rattle.reading.specs.Readers.{Reader, behind_on, behind, both_behind_on, branch, seen}
use Rattle.reading.specs.Printing.{Matches}
use Rattle.reading.specs.Law.{Law}
use Rattle.reading.proofs.Texts.{Always}
use Rattle.reading.proofs.Dependent.{dependent_syntax, seq_syntax}
use Rattle.reading.proofs.Lead.{lead_syntax, branch_law}
use Rattle.reading.proofs.Seen.{View, seen_law}
use Rattle.reading.proofs.Starts.{one_decides}
use Rattle.reading.proofs.Must.{Ends, ends_by}
use Rattle.cob_parse_expr.specs.LexemeClasses.{the}
use Rattle.cob_parse_data.proofs.WordLaws.{beside}
use Rattle.cob_parse_verb.specs.Procedure.{procedure}
use Rattle.cob_parse_verb.specs.Syntaxes.{choices_syntax}
use Rattle.cob_parse_proc.specs.Reading.{here, one_word, nots, may_go, last, make_when, other_stands}
use Rattle.cob_parse_proc.proofs.Words.{one_key}
use Rattle.cob_parse_proc.proofs.Marks.{free_next, not_taken, not_seconds}
use Rattle.cob_parse_proc.proofs.Syntaxes.{stmts_syntax, when_syntax, led_syntax, Known}

-- whether a statement begins, one token tells
pub start_told : (t : Sign) (y z : List Sign) → here Starts (t ∷ y) ≡ here Starts (t ∷ z)
start_told = one_decides procedure (is Starts) (not_taken (is Starts) refl refl refl refl)

abbrev pub when_parts : When → List Sel × Stmts
when_parts (MkWhen choices body) = (choices, body)

pub when_view : (d : ℕ) → View (seq_syntax (choices_syntax d) (stmts_syntax d)) (when_syntax d) make_when when_parts
when_view d = record { back = back; print = λ x good. refl; takes = λ x p good. refl; good = λ x good. (good.0.0, good.0.1, good.1); good_back = good_back }
  where
    back : (w : When) → (when_syntax d).Good w → make_when (when_parts w) ≡ w
    back (MkWhen choices body) good = refl

    good_back : (w : When) → (when_syntax d).Good w → (seq_syntax (choices_syntax d) (stmts_syntax d)).Good (when_parts w)
    good_back (MkWhen choices body) good = ((good.0, good.1), good.2)

pub choices_end : (K : Known) (d top : ℕ) → d < top → Ends procedure (choices_syntax d) top (λ xs. may_go ((choices_syntax d).takes xs)) (here Starts)
choices_end K d top low = ends_by nots not_seconds (K.choices_grow d top low) (λ xs ts good there. free_next Starts ((choices_syntax d).takes xs) (K.choices_never d xs good) ts there)

-- ---- words before a list

pub led_view : (d : ℕ) (ks : List Keyword) (k : Keyword) → View (dependent_syntax (lead_syntax Always (λ (x : Unit {0}). key d k)) (λ x. led_syntax d ks)) (led_syntax d (k ∷ ks)) last beside
led_view d ks k = record { back = λ y good. refl; print = λ x good. refl; takes = λ x p good. refl; good = λ x good. good.1; good_back = λ y good. (tt, good) }

pub led_law : (d top : ℕ) (low : d < top) (inner : Reader Sign Stmts) (ks : List Keyword) (k : Keyword) → Law procedure inner (led_syntax d ks) top → Law procedure (seen last (branch (one_word k) (λ x. inner))) (led_syntax d (k ∷ ks)) top
led_law d top low inner ks k LI = seen_law (branch_law (one_key d k) top (λ x a. low) tt tt (λ x. inner) (λ x. led_syntax d ks) (λ x a. LI)) (led_view d ks k)

-- ---- OTHER is no choice

-- nothing, or OTHER first
abbrev other_symbol : Symbol → Bool
other_symbol y = is_some (the word.Other y)

abbrev other_first : List Item → Bool
other_first [] = true
other_first (i ∷ is) = other_symbol i.symbol

pub first_stays : (is js : List Item) → other_first is ≡ false → other_first (is ++ js) ≡ false
first_stays [] js e = absurd cc
first_stays (i ∷ is) js e = e

opnd_first : (d : ℕ) (o : Opnd) → other_first (print_opnd d o) ≡ false
opnd_first d (opnd.Ref r) = refl
opnd_first d (opnd.Const (const.Number n)) = refl
opnd_first d (opnd.Const (const.Text text)) = refl
opnd_first d (opnd.Const const.Zero) = refl
opnd_first d (opnd.Const const.Space) = refl
opnd_first d (opnd.Const const.Quote) = refl
opnd_first d (opnd.Const const.HighValue) = refl
opnd_first d (opnd.Const const.LowValue) = refl

primary_first : (d : ℕ) (p : Primary) → other_first (print_primary d p) ≡ false
primary_first d (operand o) = opnd_first d o
primary_first d (group e) = refl

fact_first : (d : ℕ) (f : Fact) → other_first (print_fact d f) ≡ false
fact_first d (MkFact None p) = primary_first d p
fact_first d (MkFact (Some s) p) = refl

term_first : (d : ℕ) (t : Term) → other_first (print_term d t) ≡ false
term_first d (MkTerm f fs) = first_stays (print_fact d f) (print_facts d fs) (fact_first d f)

expr_first : (d : ℕ) (e : Expr) → other_first (print_expr d e) ≡ false
expr_first d (MkExpr t ts) = first_stays (print_term d t) (print_terms d ts) (term_first d t)

simple_first : (d : ℕ) (s : Simple) → other_first (print_simple d s) ≡ false
simple_first d (parenthesised c) = refl
simple_first d (relation left not_ rel right) = first_stays (print_expr d left) (print_not d not_ ++ print_relation d rel ∷ print_expr d right) (expr_first d left)
simple_first d (abbreviated false rel right) = refl
simple_first d (abbreviated true rel right) = refl
simple_first d (numeric value not_) = first_stays (print_expr d value) (print_not d not_ ++ key d word.Numeric ∷ []) (expr_first d value)
simple_first d (cond.sign value not_ asked) = first_stays (print_expr d value) (print_not d not_ ++ key d (sign_word asked) ∷ []) (expr_first d value)
simple_first d (alone e) = expr_first d e

neg_first : (d : ℕ) (n : Neg) → other_first (print_neg d n) ≡ false
neg_first d (MkNeg true s) = refl
neg_first d (MkNeg false s) = simple_first d s

conj_first : (d : ℕ) (c : Conj) → other_first (print_conj d c) ≡ false
conj_first d (MkConj n ns) = first_stays (print_neg d n) (print_negs d ns) (neg_first d n)

cond_first : (d : ℕ) (c : Cond) → other_first (print_cond d c) ≡ false
cond_first d (MkCond c cs) = first_stays (print_conj d c) (print_conjs d cs) (conj_first d c)

pub sel_first : (d : ℕ) (s : Sel) → other_first (print_sel d s) ≡ false
sel_first d any = refl
sel_first d (range low high) = first_stays (print_expr d low) (key d word.Thru ∷ print_expr d high) (expr_first d low)
sel_first d (choice c) = cond_first d c

-- behind WHEN, in a text of such items
pub no_other : (is : List Item) (ts rest : List Sign) → other_first is ≡ false → Matches procedure is ts → is_some (behind (one_word word.Other) (ts ++ rest)) ≡ false
no_other [] ts rest e m = absurd cc
no_other (i ∷ is) [] rest e m = absurd m
no_other (i ∷ is) (t ∷ ts) rest e m = go (the word.Other t.symbol) (ap other_symbol m.0.symbol ∙ e)
  where
    go : (o : Option (Unit {0})) → is_some o ≡ false → is_some (behind_on o (ts ++ rest)) ≡ false
    go None e0 = refl
    go (Some x) e0 = absurd cc

shown : (o : Option (Unit {0})) (ts us : List Sign) → is_some (behind_on o ts) ≡ is_some (behind_on o us)
shown None ts us = refl
shown (Some x) ts us = refl

-- two tokens tell
pub other_told : (u v : Sign) (y z : List Sign) → other_stands (u ∷ v ∷ y) ≡ other_stands (u ∷ v ∷ z)
other_told u v y z = go (the word.When u.symbol)
  where
    go : (o : Option (Unit {0})) → is_some (both_behind_on o (one_word word.Other) (v ∷ y)) ≡ is_some (both_behind_on o (one_word word.Other) (v ∷ z))
    go None = refl
    go (Some x) = shown (the word.Other v.symbol) y z

pub one_alone : (t : Sign) → other_stands (t ∷ []) ≡ false
one_alone t = go (the word.When t.symbol)
  where
    go : (o : Option (Unit {0})) → is_some (both_behind_on o (one_word word.Other) []) ≡ false
    go None = refl
    go (Some x) = refl
