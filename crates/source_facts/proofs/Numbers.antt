-- Typing numbers statements in the order of the source.
use Rattle.std.proofs.Common.{◌≡◌, inl, inr, ℕ, ◌+◌, ◌-◌, ◌<◌, ◌≤◌, zero, suc, List, [], ◌∷◌, ◌++◌, map, Option, Some, None, refl, ap, ◌∙◌, sym, subst, arith}
use Rattle.std.specs.Prelude.{slice_get}
use Rattle.std.specs.List.{range_with_len}
use Rattle.cob_tree.specs.Stmt as tree
use Rattle.cob_data.specs.declared.layout.Flag.{Flag}
use Rattle.cob_data.specs.declared.layout.Layout.{Layout}
use Rattle.cob_program.specs.Act.{Stmt, MkStmt, Stmts, Phrase, left_out, given, Act, Program}
use Rattle.cob_program.specs.Statements.{list_statements, phrase_statements, with_inner_statements, inner_statements, whens_statements, paras_statements, program_statements}
use Rattle.cob_typed_exprs.specs.Judged.{Judged}
use Rattle.cob_typed_exprs.specs.Scope.{Scope}
use Rattle.cob_typed_conds.specs.declared.selections.Looked.{Looked}
use Rattle.cob_typed_conds.specs.Selections.{looked_at}
use Rattle.cob_typed_verbs.specs.Verbs.{set_flag, set_if}
use Rattle.cob_typed_verbs.specs.Arithmetic.{Worked, add_to, add_giving, subtract_from, subtract_giving, multiply_by, multiply_giving, divide_into, divide_giving, compute}
use Rattle.cob_typed.specs.Statements.{stmts_if, typed_stmts, typed_stmt, typed_phrase, typed_arith, typed_whens, typed_verb}
use Rattle.cob_typed.specs.Typing.{scope_of, joined, typed_sentences, typed_paras, typed_all, typed}
use Rattle.data_laws.specs.Statements.{IsIn}
use Rattle.data_laws.proofs.Listed.{found_is_listed}
use Rattle.graph_runs.specs.Sources.{StatementsAreCounted}
use Rattle.source_facts.specs.Statements.{number_of, AreNumberedInOrder}
use Rattle.source_facts.proofs.Joined.{joined_list}

-- ---- numbers from lo on to before hi

abbrev AreNumbered : ℕ → ℕ → List Stmt → Type 0
AreNumbered lo hi [] = lo ≡ hi
AreNumbered lo hi (s ∷ ss) = (number_of s ≡ lo) × AreNumbered (suc lo) hi ss

two : (lo mid hi : ℕ) (xs ys : List Stmt) → AreNumbered lo mid xs → AreNumbered mid hi ys → AreNumbered lo hi (xs ++ ys)
two lo mid hi [] ys first second = subst (λ n. AreNumbered n hi ys) (sym first) second
two lo mid hi (x ∷ xs) ys first second = (first.0, two (suc lo) mid hi xs ys first.1 second)

-- ---- what typing gives

if_given : (lo hi : ℕ) (x : Phrase) → AreNumbered lo hi (phrase_statements x) → AreNumbered lo hi (list_statements (stmts_if x))
if_given lo hi left_out order = order
if_given lo hi (given ss) order = order

set_flag_order : (n : ℕ) (o : Option Flag) → AreNumbered n n (inner_statements (set_flag o))
set_flag_order n None = refl
set_flag_order n (Some f) = refl

module _ (s : Scope) where
  set_order : (n : ℕ) (o : Option ℕ) → AreNumbered n n (inner_statements (set_if s o))
  set_order n None = refl
  set_order n (Some place) = set_flag_order n (slice_get s.layout.flags place)

  mutual
    stmts_order : (n : ℕ) (ss : tree.Stmts) → AreNumbered n (typed_stmts s n ss).next (list_statements (typed_stmts s n ss).value)
    stmts_order n tree.no_stmts = refl
    stmts_order n (tree.more_stmts x xs) =
        let y = typed_stmt s n x in
        two n y.next (typed_stmts s y.next xs).next (with_inner_statements y.value) (list_statements (typed_stmts s y.next xs).value)
        (stmt_order n x) (stmts_order y.next xs)

    stmt_order : (n : ℕ) (x : tree.Stmt) → AreNumbered n (typed_stmt s n x).next (with_inner_statements (typed_stmt s n x).value)
    stmt_order n (tree.MkStmt line v) = (refl, verb_order line (suc n) v)

    phrase_order : (n : ℕ) (x : tree.Phrase) → AreNumbered n (typed_phrase s n x).next (phrase_statements (typed_phrase s n x).value)
    phrase_order n tree.left_out = refl
    phrase_order n (tree.given ss) = stmts_order n ss

    arith_order : (line n : ℕ) (w : Judged Worked) (x : tree.Tail) → AreNumbered n (typed_arith s line n w x).next (inner_statements (typed_arith s line n w x).value)
    arith_order line n w (tree.MkTail size not_size ended) =
        let a = typed_phrase s n size in
        let b = typed_phrase s a.next not_size in
        two n a.next b.next (phrase_statements a.value) (list_statements (stmts_if b.value)) (phrase_order n size)
        (if_given a.next b.next b.value (phrase_order a.next not_size))

    whens_order : (line n : ℕ) (subject : Looked) (ws : tree.Whens) →
        AreNumbered n (typed_whens s line n subject ws).next (whens_statements (typed_whens s line n subject ws).value)
    whens_order line n subject tree.no_whens = refl
    whens_order line n subject (tree.more_whens (tree.MkWhen choices body) ws) =
        let x = typed_stmts s n body in
        let later = typed_whens s line x.next subject ws in
        two n x.next later.next (list_statements x.value) (whens_statements later.value) (stmts_order n body) (whens_order line x.next subject ws)

    verb_order : (line n : ℕ) (v : tree.Verb) → AreNumbered n (typed_verb s line n v).next (inner_statements (typed_verb s line n v).value)
    verb_order line n (tree.move from to) = refl
    verb_order line n (tree.set text) = set_order n _
    verb_order line n (tree.display operands) = refl
    verb_order line n (tree.add_to addends to tail) = arith_order line n (add_to s addends to) tail
    verb_order line n (tree.add_giving addends to giving tail) = arith_order line n (add_giving s addends to giving) tail
    verb_order line n (tree.subtract_from less from tail) = arith_order line n (subtract_from s less from) tail
    verb_order line n (tree.subtract_giving less from giving tail) = arith_order line n (subtract_giving s less from giving) tail
    verb_order line n (tree.multiply_by factor by tail) = arith_order line n (multiply_by s factor by) tail
    verb_order line n (tree.multiply_giving factor by giving tail) = arith_order line n (multiply_giving s factor by giving) tail
    verb_order line n (tree.divide_into divisor into tail) = arith_order line n (divide_into s divisor into) tail
    verb_order line n (tree.divide_giving first way second giving remainder tail) =
        arith_order line n (divide_giving s first way second giving remainder) tail
    verb_order line n (tree.compute to value tail) = arith_order line n (compute s to value) tail
    verb_order line n (tree.if_ test ss other ended) =
        let x = typed_stmts s n ss in
        let y = typed_phrase s x.next other in
        two n x.next y.next (list_statements x.value) (list_statements (stmts_if y.value)) (stmts_order n ss)
        (if_given x.next y.next y.value (phrase_order x.next other))
    verb_order line n (tree.evaluate subject whens other ended) =
        let looked = looked_at s subject in
        let x = typed_whens s line n looked.value whens in
        let y = typed_phrase s x.next other in
        two n x.next y.next (whens_statements x.value) (list_statements (stmts_if y.value)) (whens_order line n looked.value whens)
        (if_given x.next y.next y.value (phrase_order x.next other))
    verb_order line n (tree.perform_range first thru turns) = refl
    verb_order line n (tree.perform_inline turns body) = stmts_order n body
    verb_order line n (tree.go text) = refl
    verb_order line n tree.exit = refl
    verb_order line n tree.continue = refl
    verb_order line n tree.stop_run = refl
    verb_order line n (tree.open_ files) = refl
    verb_order line n (tree.close names) = refl
    verb_order line n (tree.read file into end not_end ended) =
        let a = typed_phrase s n end in
        let b = typed_phrase s a.next not_end in
        two n a.next b.next (phrase_statements a.value) (list_statements (stmts_if b.value)) (phrase_order n end)
        (if_given a.next b.next b.value (phrase_order a.next not_end))
    verb_order line n (tree.write rec_ from ended) = refl

  -- ---- sentences and paragraphs

  joined_order : (lo mid hi : ℕ) (xs ys : Stmts) → AreNumbered lo mid (list_statements xs) → AreNumbered mid hi (list_statements ys) →
      AreNumbered lo hi (list_statements (joined xs ys))
  joined_order lo mid hi xs ys first second = subst (AreNumbered lo hi) (sym (joined_list xs ys)) (two lo mid hi (list_statements xs) (list_statements ys) first second)

  sentences_order : (n : ℕ) (ss : List tree.Stmts) → AreNumbered n (typed_sentences s n ss).next (list_statements (typed_sentences s n ss).value)
  sentences_order n [] = refl
  sentences_order n (ss ∷ more) =
      let x = typed_stmts s n ss in
      let y = typed_sentences s x.next more in
      joined_order n x.next y.next x.value y.value (stmts_order n ss) (sentences_order x.next more)

  paras_order : (n : ℕ) (ps : List tree.Paragraph) → AreNumbered n (typed_paras s n ps).next (paras_statements (typed_paras s n ps).value)
  paras_order n [] = refl
  paras_order n (p ∷ ps) =
      let x = typed_sentences s n p.sentences in
      let y = typed_paras s x.next ps in
      two n x.next y.next (list_statements x.value) (paras_statements y.value) (sentences_order n p.sentences) (paras_order x.next ps)

all_order : (l : Layout) (t : tree.Tree) → AreNumbered 1 (typed_all l t).next (program_statements (typed l t))
all_order l t =
    let s = scope_of l t in
    let x = typed_sentences s 1 t.sentences in
    let y = typed_paras s x.next t.paragraphs in
    two 1 x.next y.next (list_statements x.value) (paras_statements y.value) (sentences_order s 1 t.sentences) (paras_order s x.next t.paragraphs)

-- ---- as a list of numbers

as_list : (lo hi : ℕ) (ss : List Stmt) → AreNumbered lo hi ss → map number_of ss ≡ range_with_len lo (hi - lo)
as_list lo hi [] order = let none : hi - lo ≡ 0 = omega (arith, order) in ap (range_with_len lo) (sym none)
as_list lo hi (s ∷ ss) order =
    let next : suc lo ≡ lo + 1 = omega arith in
    let later = as_list (suc lo) hi ss order.1 in
    let more : suc (hi - suc lo) ≡ hi - lo = omega (arith, low (suc lo) hi ss order.1) in
    ap (λ n. n ∷ map number_of ss) order.0
    ∙ (ap (λ ns. lo ∷ ns) (later ∙ ap (λ n. range_with_len n (hi - suc lo)) next)
    ∙ ap (range_with_len lo) more)
  where
    low : (lo hi : ℕ) (ss : List Stmt) → AreNumbered lo hi ss → lo ≤ hi
    low lo hi [] order = omega (arith, order)
    low lo hi (s ∷ ss) order = omega (arith, low (suc lo) hi ss order.1)

pub typed_in_order : (l : Layout) (t : tree.Tree) → AreNumberedInOrder (typed l t)
typed_in_order l t = as_list 1 (typed_all l t).next (program_statements (typed l t)) (all_order l t)

-- ---- so what is found has one of the numbers

in_range : (n : ℕ) (a : Act) (ss : List Stmt) (from count : ℕ) → map number_of ss ≡ range_with_len from count → IsIn n a ss → (from ≤ n) × (n < from + count)
in_range n a [] from count same is = absurd is
in_range n a (MkStmt m line b ∷ ss) from zero same is = absurd (cc)
in_range n a (MkStmt m line b ∷ ss) from (suc count) same (inl here) =
    let first : m ≡ from = cc in (omega (arith, first, here.0), omega (arith, first, here.0))
in_range n a (MkStmt m line b ∷ ss) from (suc count) same (inr later) =
    let rest : map number_of ss ≡ range_with_len (from + 1) count = cc in
    let at = in_range n a ss (from + 1) count rest later in
    (omega (arith, at.0), omega (arith, at.1))

pub numbers_are_counted : (p : Program) → AreNumberedInOrder p → StatementsAreCounted p
numbers_are_counted p order n a found =
    let at = in_range n a (program_statements p) 1 p.statements order (found_is_listed p n a found) in
    (at.0, omega (arith, at.1))
