-- How many statements stand in a tree's statements, those in their lists among them. By this the functions over them end.
use Rattle.std.proofs.Common.{◌≡◌, ℕ, zero, suc, ◌+◌, ◌<◌, ◌≤◌, List, [], ◌∷◌, length, get_or, map, refl, sym, ap, ◌∙◌, arith}
use Rattle.cob_tree.specs.declared.stmt.Stmt as declared_stmt
use Rattle.cob_tree.specs.declared.stmt.Stmt.{out-Stmt}
use Rattle.cob_tree.specs.declared.stmt.When as declared_when
use Rattle.cob_tree.specs.Stmt as tree
use Rattle.cob_tree.specs.StmtView as tree_view
use Rattle.cob_typed.specs.Heads.{Lists, tail_lists, lists_of}
use Rattle.cob_typed.proofs.ListLemmas.{stmts_from, whens_from, stmts_step, whens_step}
use Rattle.cob_typed.proofs.StmtLemmas.{stmt_is}

abbrev mutual
  pub stmts_weight : tree.Stmts → ℕ
  stmts_weight tree.no_stmts = 0
  stmts_weight (tree.more_stmts x xs) = stmt_weight x + stmts_weight xs

  pub stmt_weight : tree.Stmt → ℕ
  stmt_weight (tree.MkStmt line v) = verb_weight v + 1

  pub phrase_weight : tree.Phrase → ℕ
  phrase_weight tree.left_out = 0
  phrase_weight (tree.given ss) = stmts_weight ss

  pub tail_weight : tree.Tail → ℕ
  tail_weight (tree.MkTail size not_size ended) = phrase_weight size + phrase_weight not_size

  pub whens_weight : tree.Whens → ℕ
  whens_weight tree.no_whens = 0
  whens_weight (tree.more_whens x xs) = when_weight x + whens_weight xs

  pub when_weight : tree.When → ℕ
  when_weight (tree.MkWhen choices body) = stmts_weight body

  pub verb_weight : tree.Verb → ℕ
  verb_weight (tree.add_to addends to tail) = tail_weight tail
  verb_weight (tree.add_giving addends to giving tail) = tail_weight tail
  verb_weight (tree.subtract_from less from tail) = tail_weight tail
  verb_weight (tree.subtract_giving less from giving tail) = tail_weight tail
  verb_weight (tree.multiply_by factor by tail) = tail_weight tail
  verb_weight (tree.multiply_giving factor by giving tail) = tail_weight tail
  verb_weight (tree.divide_into divisor into tail) = tail_weight tail
  verb_weight (tree.divide_giving first way second giving remainder tail) = tail_weight tail
  verb_weight (tree.compute to value tail) = tail_weight tail
  verb_weight (tree.if_ test ss other ended) = stmts_weight ss + phrase_weight other
  verb_weight (tree.evaluate subject whens other ended) = whens_weight whens + phrase_weight other
  verb_weight (tree.perform_inline turns body) = stmts_weight body
  verb_weight (tree.read file into end not_end ended) = phrase_weight end + phrase_weight not_end
  verb_weight _ = 0

abbrev pub lists_weight : Lists → ℕ
lists_weight l = whens_weight l.whens + phrase_weight l.first + phrase_weight l.second

-- ---- statements and WHENs of a list

rest_within : (i : ℕ) (xs : List declared_stmt.Stmt) → stmts_weight (stmts_from xs i) ≤ stmts_weight (tree.stmts_of (map tree_view.plain_stmt xs))
rest_within zero xs = omega arith
rest_within (suc i) [] = omega arith
rest_within (suc i) (y ∷ ys) = omega (arith, rest_within i ys)

pub stmt_within : (xs : List declared_stmt.Stmt) (i : ℕ) (x : declared_stmt.Stmt) → i < length xs → x ≡ get_or xs i x → stmt_weight (tree_view.plain_stmt x) ≤ stmts_weight (tree.stmts_of (map tree_view.plain_stmt xs))
stmt_within xs i x within is = omega (arith, ap stmts_weight (stmts_step xs i x within is), rest_within i xs)

whens_rest_within : (i : ℕ) (xs : List declared_when.When) → whens_weight (whens_from xs i) ≤ whens_weight (tree.whens_of (map tree_view.plain_when xs))
whens_rest_within zero xs = omega arith
whens_rest_within (suc i) [] = omega arith
whens_rest_within (suc i) (y ∷ ys) = omega (arith, whens_rest_within i ys)

pub when_within : (xs : List declared_when.When) (i : ℕ) (x : declared_when.When) → i < length xs → x ≡ get_or xs i x → when_weight (tree_view.plain_when x) ≤ whens_weight (tree.whens_of (map tree_view.plain_when xs))
when_within xs i x within is = omega (arith, ap whens_weight (whens_step xs i x within is), whens_rest_within i xs)

-- ---- the lists of a statement

tail_lists_weight : (t : tree.Tail) → lists_weight (tail_lists t) ≡ tail_weight t
tail_lists_weight (tree.MkTail size not_size ended) = omega arith

verb_lists : (v : tree.Verb) → lists_weight (lists_of v) ≡ verb_weight v
verb_lists (tree.add_to addends to tail) = tail_lists_weight tail
verb_lists (tree.add_giving addends to giving tail) = tail_lists_weight tail
verb_lists (tree.subtract_from less from tail) = tail_lists_weight tail
verb_lists (tree.subtract_giving less from giving tail) = tail_lists_weight tail
verb_lists (tree.multiply_by factor by tail) = tail_lists_weight tail
verb_lists (tree.multiply_giving factor by giving tail) = tail_lists_weight tail
verb_lists (tree.divide_into divisor into tail) = tail_lists_weight tail
verb_lists (tree.divide_giving first way second giving remainder tail) = tail_lists_weight tail
verb_lists (tree.compute to value tail) = tail_lists_weight tail
verb_lists (tree.if_ test ss other ended) = omega arith
verb_lists (tree.evaluate subject whens other ended) = omega arith
verb_lists (tree.perform_inline turns body) = omega arith
verb_lists (tree.read file into end not_end ended) = omega arith
verb_lists (tree.move from to) = refl
verb_lists (tree.set text) = refl
verb_lists (tree.display operands) = refl
verb_lists (tree.perform_range first thru turns) = refl
verb_lists (tree.go text) = refl
verb_lists tree.exit = refl
verb_lists tree.continue = refl
verb_lists tree.stop_run = refl
verb_lists (tree.open_ files) = refl
verb_lists (tree.close names) = refl
verb_lists (tree.write rec_ from ended) = refl

pub lists_within : (x : declared_stmt.Stmt) (l : Lists) → l ≡ lists_of (tree_view.plain_verb (out-Stmt x).verb) → lists_weight l + 1 ≡ stmt_weight (tree_view.plain_stmt x)
lists_within x l is = ap (λ k. k + 1) (ap lists_weight is ∙ verb_lists (tree_view.plain_verb (out-Stmt x).verb)) ∙ sym (ap stmt_weight (stmt_is x))
