-- Statements with their names resolved and numbered in the order of the source, and the rules that each breaks.
use Rattle.std.specs.Prelude.{ℕ, suc, ◌+◌, Bool, true, false, List, [], ◌∷◌, ◌++◌, Option, Some, None}
use Rattle.cob_tree.specs.declared.operand.Opnd.{Opnd}
use Rattle.cob_tree.specs.declared.operand.Ref.{Ref}
use Rattle.cob_tree.specs.declared.stmt.TestPoint.{TestPoint}
use Rattle.cob_tree.specs.declared.stmt.TestPoint.TheVariants as test_point
use Rattle.cob_tree.specs.declared.stmt.Varying.{Varying}
use Rattle.cob_tree.specs.Stmt as tree
use Rattle.cob_tree.specs.Forms.{is_number_form}
use Rattle.cob_data.specs.declared.end.Rule.{Rule}
use Rattle.cob_data.specs.declared.end.Rule.TheVariants.{Q10}
use Rattle.cob_data.specs.declared.layout.Sender.{Sender}
use Rattle.cob_program.specs.Logic.{Logic}
use Rattle.cob_program.specs.Act.{Turns, once, times, until, varying, Stmt, MkStmt, Stmts, no_stmts, more_stmts, Phrase, left_out, given, Act, arith, if_, evaluate, perform, go, nothing, stop, read, Whens, no_whens, more_whens, MkWhen, range, inline}
use Rattle.cob_typed_exprs.specs.Judged.{Broken, kept, one, both, Judged, sound, demand, each_of, seen_as, ◌>>=◌}
use Rattle.cob_typed_exprs.specs.Scope.{Scope, the_item, the_para, form_at}
use Rattle.cob_typed_exprs.specs.Kinds.{is_number, is_whole}
use Rattle.cob_typed_exprs.specs.Sums.{operand}
use Rattle.cob_typed_conds.specs.Conditions.{walk_cond}
use Rattle.cob_typed_conds.specs.declared.selections.Looked.{Looked}
use Rattle.cob_typed_conds.specs.Selections.{looked_at, selection}
use Rattle.cob_typed_verbs.specs.Verbs.{move_act, set_act, show_act, open_act, close_act, read_parts, write_act}
use Rattle.cob_typed_verbs.specs.Arithmetic.{Worked, add_to, add_giving, subtract_from, subtract_giving, multiply_by, multiply_giving, divide_into, divide_giving, compute}

abbrev pub is_after : Option TestPoint → Bool
is_after (Some test_point.After) = true
is_after _ = false

module _ (s : Scope) where
  -- ---- loops

  abbrev pub number_operand : Opnd → Judged Sender
  number_operand o = operand s o >>= λ x. demand Q10 (is_number s x) x

  abbrev pub varied : Ref → Judged ℕ
  varied r = the_item s r >>= λ place. demand Q10 (is_number_form (form_at s place)) place

  abbrev pub turns_until : Option TestPoint → Option Varying → Logic → Judged Turns
  turns_until at None t = sound (until (is_after at) t)
  turns_until at (Some v) t =
      varied v.item >>= λ place. number_operand v.from >>= λ start. number_operand v.by >>= λ by. sound (varying (is_after at) place start by t)

  abbrev pub turns_of : Option tree.Loop → Judged Turns
  turns_of None = sound once
  turns_of (Some (tree.times o)) = operand s o >>= λ x. demand Q10 (is_whole s x) (times x)
  turns_of (Some (tree.until at v c)) = walk_cond s c >>= λ test. turns_until at v test

  abbrev pub last_para : ℕ → Option (List ℕ) → Judged ℕ
  last_para first None = sound first
  last_para first (Some text) = the_para s text

  abbrev pub range_act : List ℕ → Option (List ℕ) → Option tree.Loop → Judged Act
  range_act first thru turns =
      the_para s first >>= λ p. last_para p thru >>= λ q. turns_of turns >>= λ t. sound (perform (range p q) t)

  abbrev pub go_act : List ℕ → Judged Act
  go_act text = seen_as go (the_para s text)

-- ---- statements

-- a value, the number of the next statement, and the rules that were broken, each with its line
pub record Numbered (A : Type 0) : Type 0 where
  pub value : A
  pub next : ℕ
  pub found : List (Rule × ℕ)

abbrev pub numbered : {A : Type 0} → A → ℕ → Numbered A
numbered a n = record { value = a; next = n; found = [] }

abbrev pub found_on : ℕ → Broken → List (Rule × ℕ)
found_on line kept = []
found_on line (one rule) = (rule, line) ∷ []
found_on line (both a b) = found_on line a ++ found_on line b

-- what is judged on a line, where the next statement has this number
abbrev pub judged_on : {A : Type 0} → ℕ → ℕ → Judged A → Numbered A
judged_on line n j = record { value = j.value; next = n; found = found_on line j.broken }

infixl 10 ◌>>>◌
abbrev pub ◌>>>◌ : {A B : Type 0} → Numbered A → (A → ℕ → Numbered B) → Numbered B
a >>> next = record { value = (next a.value a.next).value; next = (next a.value a.next).next; found = a.found ++ (next a.value a.next).found }

abbrev pub stmts_if : Phrase → Stmts
stmts_if left_out = no_stmts
stmts_if (given ss) = ss

module _ (s : Scope) where
  abbrev pub typed_choices : ℕ → ℕ → Looked → List tree.Sel → Numbered (List Logic)
  typed_choices line n subject choices = judged_on line n (each_of (selection s subject) choices)

  abbrev mutual
    pub typed_stmts : ℕ → tree.Stmts → Numbered Stmts
    typed_stmts n tree.no_stmts = numbered no_stmts n
    typed_stmts n (tree.more_stmts x xs) = typed_stmt n x >>> λ y m. typed_stmts m xs >>> λ ys k. numbered (more_stmts y ys) k

    pub typed_stmt : ℕ → tree.Stmt → Numbered Stmt
    typed_stmt n (tree.MkStmt line v) = typed_verb line (suc n) v >>> λ a m. numbered (MkStmt n line a) m

    pub typed_phrase : ℕ → tree.Phrase → Numbered Phrase
    typed_phrase n tree.left_out = numbered left_out n
    typed_phrase n (tree.given ss) = typed_stmts n ss >>> λ xs m. numbered (given xs) m

    pub typed_arith : ℕ → ℕ → Judged Worked → tree.Tail → Numbered Act
    typed_arith line n w (tree.MkTail size not_size ended) =
        judged_on line n w >>> λ x m. typed_phrase m size >>> λ a k. typed_phrase k not_size >>> λ b j.
        numbered (arith x.common x.targets x.remainder a (stmts_if b)) j

    pub typed_whens : ℕ → ℕ → Looked → tree.Whens → Numbered Whens
    typed_whens line n subject tree.no_whens = numbered no_whens n
    typed_whens line n subject (tree.more_whens (tree.MkWhen choices body) ws) =
        typed_choices line n subject choices >>> λ tests m. typed_stmts m body >>> λ xs k. typed_whens line k subject ws >>> λ ys j.
        numbered (more_whens (MkWhen tests xs) ys) j

    -- A verb on its line, where the next statement has this number.
    pub typed_verb : ℕ → ℕ → tree.Verb → Numbered Act
    typed_verb line n (tree.move from to) = judged_on line n (move_act s from to)
    typed_verb line n (tree.set text) = judged_on line n (set_act s text)
    typed_verb line n (tree.display operands) = judged_on line n (show_act s operands)
    typed_verb line n (tree.add_to addends to tail) = typed_arith line n (add_to s addends to) tail
    typed_verb line n (tree.add_giving addends to giving tail) = typed_arith line n (add_giving s addends to giving) tail
    typed_verb line n (tree.subtract_from less from tail) = typed_arith line n (subtract_from s less from) tail
    typed_verb line n (tree.subtract_giving less from giving tail) = typed_arith line n (subtract_giving s less from giving) tail
    typed_verb line n (tree.multiply_by factor by tail) = typed_arith line n (multiply_by s factor by) tail
    typed_verb line n (tree.multiply_giving factor by giving tail) = typed_arith line n (multiply_giving s factor by giving) tail
    typed_verb line n (tree.divide_into divisor into tail) = typed_arith line n (divide_into s divisor into) tail
    typed_verb line n (tree.divide_giving first way second giving remainder tail) = typed_arith line n (divide_giving s first way second giving remainder) tail
    typed_verb line n (tree.compute to value tail) = typed_arith line n (compute s to value) tail
    typed_verb line n (tree.if_ test ss other ended) =
        judged_on line n (walk_cond s test) >>> λ t m. typed_stmts m ss >>> λ xs k. typed_phrase k other >>> λ ys j. numbered (if_ t xs (stmts_if ys)) j
    typed_verb line n (tree.evaluate subject whens other ended) =
        judged_on line n (looked_at s subject) >>> λ x m. typed_whens line m x whens >>> λ ws k. typed_phrase k other >>> λ ys j. numbered (evaluate ws (stmts_if ys)) j
    typed_verb line n (tree.perform_range first thru turns) = judged_on line n (range_act s first thru turns)
    typed_verb line n (tree.perform_inline turns body) =
        judged_on line n (turns_of s turns) >>> λ t m. typed_stmts m body >>> λ xs k. numbered (perform (inline xs) t) k
    typed_verb line n (tree.go text) = judged_on line n (go_act s text)
    typed_verb line n tree.exit = numbered nothing n
    typed_verb line n tree.continue = numbered nothing n
    typed_verb line n tree.stop_run = numbered stop n
    typed_verb line n (tree.open_ files) = judged_on line n (open_act s files)
    typed_verb line n (tree.close names) = judged_on line n (close_act s names)
    typed_verb line n (tree.read file into end not_end ended) =
        judged_on line n (read_parts s file into) >>> λ x m. typed_phrase m end >>> λ a k. typed_phrase k not_end >>> λ b j.
        numbered (read x.0 x.1 a (stmts_if b)) j
    typed_verb line n (tree.write rec_ from ended) = judged_on line n (write_act s rec_ from)
