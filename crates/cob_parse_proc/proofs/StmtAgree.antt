-- Statements read with less and with more room.
use Rattle.std.proofs.Common.{◌≡◌, ℕ, zero, suc, ◌≤◌, inr, false, List, [], ◌∷◌, length, Option, Some, None, is_some, Err, refl, sym, ap, ◌∙◌, arith}
use Rattle.cob_tree.specs.declared.keyword.Keyword.{Keyword}
use Rattle.cob_tree.specs.declared.keyword.Keyword.TheVariants as word
use Rattle.cob_tree.specs.Symbols.{Symbol, Key, Name, Number, Text, Mark, Relation, Pic, Stop, Sign}
use Rattle.cob_tree.specs.Cues.{is, key_cue}
use Rattle.cob_tree.specs.Cues as cue
use Rattle.cob_tree.specs.Takes.{takes_sel}
use Rattle.cob_tree.specs.Stmt.{Stmts}
use Rattle.reading.specs.Readers.{Reader, branch, seen, follow, behind, both_behind, optional, must, plus, full}
use Rattle.reading.specs.Readers as reader
use Rattle.reading.specs.Printing.{begins, on_mark, peek_on}
use Rattle.reading.specs.Law.{Agrees}
use Rattle.reading.proofs.Wider.{agree_same, agree_seen, agree_follow, agree_branch, agree_choose, agree_optional, agree_need, agree_full, agree_many_from, agree_plus, agree_must}
use Rattle.cob_parse_expr.specs.LexemeClasses.{word_symbol}
use Rattle.cob_parse_verb.specs.declared.word.Start.{Start}
use Rattle.cob_parse_verb.specs.Words.{start_key, begin_on, begin_of}
use Rattle.cob_parse_verb.specs.Procedure.{procedure, word_front, token_front}
use Rattle.cob_parse_verb.specs.Heads.{Head, done, arithmetic, if_head, evaluate_head, perform_head, read_head, takes_behind}
use Rattle.cob_parse_verb.specs.Listed.{takes_listed}
use Rattle.cob_parse_verb.specs.Reading.{head_at}
use Rattle.cob_parse_verb.specs.Turning.{choices_at}
use Rattle.cob_parse_proc.specs.Reading.{here, one_word, may_go, last, make_when, when_with, other_with, other_stands, case_with, is_other, more_cases, cases_with, whens_with, list_inside, make_whens, inside_with, error_with, first_with, second_with, end_with, begun_with, one_phrase, two_phrases, parts_with, make_stmt, stmt_with, make_stmts, stmts_at}
use Rattle.cob_parse_proc.proofs.Marks.{not_cues}

pub record Rooms : Type 0 where
  pub heads_agree : (room wide : ℕ) → room ≤ wide → Agrees (head_at room) (head_at wide)
  pub choices_agree : (room wide : ℕ) → room ≤ wide → Agrees (choices_at room) (choices_at wide)

-- ---- one statement

module _ (R : Rooms) (room wide : ℕ) (le : room ≤ wide) (inner inner' : Reader Sign Stmts) (same : Agrees inner inner') where
  when_agree : Agrees (when_with inner room) (when_with inner' wide)
  when_agree = agree_seen make_when (must (choices_at room) (λ xs. may_go (takes_listed takes_sel (is cue.Whens) xs)) (here cue.Starts) inner) (must (choices_at wide) (λ xs. may_go (takes_listed takes_sel (is cue.Whens) xs)) (here cue.Starts) inner')
      (agree_must (choices_at room) (choices_at wide) inner inner' (R.choices_agree room wide le) same (λ xs. may_go (takes_listed takes_sel (is cue.Whens) xs)) (here cue.Starts))

  led_agree : (k : Keyword) (r r' : Reader Sign Stmts) → Agrees r r' → Agrees (seen last (branch (one_word k) (λ x. r))) (seen last (branch (one_word k) (λ x. r')))
  led_agree k r r' e = agree_seen last (branch (one_word k) (λ x. r)) (branch (one_word k) (λ x. r')) (agree_branch (one_word k) (λ x. r) (λ x. r') (λ x. e))

  other_agree : Agrees (other_with inner) (other_with inner')
  other_agree = led_agree word.When (seen last (branch (one_word word.Other) (λ x. inner))) (seen last (branch (one_word word.Other) (λ x. inner'))) (led_agree word.Other inner inner' same)

  case_agree : Agrees (case_with inner room) (case_with inner' wide)
  case_agree = agree_choose other_stands (other_with inner) (other_with inner') (when_with inner room) (when_with inner' wide) other_agree when_agree

  whens_agree : Agrees (whens_with inner room) (whens_with inner' wide)
  whens_agree = agree_follow (when_with inner room) (when_with inner' wide) (λ w. cases_with inner room) (λ w. cases_with inner' wide) when_agree
      (λ w. agree_many_from (λ ended ts. begins procedure (more_cases ended) ts) (λ ended. case_with inner room) (λ ended. case_with inner' wide) is_other (λ ended. case_agree) false)

  inside_agree : (h : Head) → Agrees (inside_with inner room h) (inside_with inner' wide h)
  inside_agree (done v) ts = inr refl
  inside_agree (arithmetic a) ts = inr refl
  inside_agree (if_head c) ts = agree_need (here cue.Starts) (seen list_inside inner) (seen list_inside inner') (may_go (takes_behind (if_head c))) (agree_seen list_inside inner inner' same) ts
  inside_agree (evaluate_head s) ts = agree_need (here cue.Whens) (seen make_whens (whens_with inner room)) (seen make_whens (whens_with inner' wide)) (may_go (takes_behind (evaluate_head s))) (agree_seen make_whens (whens_with inner room) (whens_with inner' wide) whens_agree) ts
  inside_agree (perform_head turns) ts = agree_need (here cue.Starts) (seen list_inside inner) (seen list_inside inner') (may_go (takes_behind (perform_head turns))) (agree_seen list_inside inner inner' same) ts
  inside_agree (read_head file into) ts = inr refl

  error_agree : Agrees (error_with inner) (error_with inner')
  error_agree = led_agree word.Error inner inner' same

  first_agree : (h : Head) → Agrees (first_with inner h) (first_with inner' h)
  first_agree (done v) ts = inr refl
  first_agree (arithmetic a) ts = agree_optional (behind (one_word word.Size)) (error_with inner) (error_with inner') error_agree ts
  first_agree (if_head c) ts = agree_optional (behind (one_word word.Else)) inner inner' same ts
  first_agree (evaluate_head s) ts = inr refl
  first_agree (perform_head turns) ts = inr refl
  first_agree (read_head file into) ts = agree_optional (behind (one_word word.End)) inner inner' same ts

  second_agree : (h : Head) → Agrees (second_with inner h) (second_with inner' h)
  second_agree (done v) ts = inr refl
  second_agree (arithmetic a) ts = agree_optional (both_behind (one_word word.Not) (one_word word.Size)) (error_with inner) (error_with inner') error_agree ts
  second_agree (if_head c) ts = inr refl
  second_agree (evaluate_head s) ts = inr refl
  second_agree (perform_head turns) ts = inr refl
  second_agree (read_head file into) ts = agree_optional (both_behind (one_word word.Not) (one_word word.End)) inner inner' same ts

  begun_agree : Agrees (begun_with inner room) (begun_with inner' wide)
  begun_agree = agree_follow (head_at room) (head_at wide) (λ x. inside_with inner room x.1) (λ x. inside_with inner' wide x.1) (R.heads_agree room wide le) (λ x. inside_agree x.1)

  one_agree : Agrees (one_phrase inner room) (one_phrase inner' wide)
  one_agree = agree_follow (begun_with inner room) (begun_with inner' wide) (λ x. first_with inner x.0.1) (λ x. first_with inner' x.0.1) begun_agree (λ x. first_agree x.0.1)

  two_agree : Agrees (two_phrases inner room) (two_phrases inner' wide)
  two_agree = agree_follow (one_phrase inner room) (one_phrase inner' wide) (λ x. second_with inner x.0.0.1) (λ x. second_with inner' x.0.0.1) one_agree (λ x. second_agree x.0.0.1)

  parts_agree : Agrees (parts_with inner room) (parts_with inner' wide)
  parts_agree = agree_follow (two_phrases inner room) (two_phrases inner' wide) (λ x. end_with x.0.0.0.1 x.0.0.1) (λ x. end_with x.0.0.0.1 x.0.0.1) two_agree (λ x. agree_same (end_with x.0.0.0.1 x.0.0.1))

  pub list_agree : Agrees (seen make_stmts (plus (here cue.Starts) (stmt_with inner room))) (seen make_stmts (plus (here cue.Starts) (stmt_with inner' wide)))
  list_agree = agree_seen make_stmts (plus (here cue.Starts) (stmt_with inner room)) (plus (here cue.Starts) (stmt_with inner' wide))
      (agree_plus (here cue.Starts) (stmt_with inner room) (stmt_with inner' wide) (agree_seen make_stmt (parts_with inner room) (parts_with inner' wide) parts_agree))

-- ---- where no statement begins

start_cue : (k : Keyword) → is_some (start_key k) ≡ on_mark procedure (is cue.Starts) (key_cue k)
start_cue word.Move = refl
start_cue _ = refl

start_told : (k : Keyword) (ts : List Sign) → is_some (start_key k) ≡ on_mark procedure (is cue.Starts) (peek_on procedure (word_front k) ts)
start_told word.Not [] = refl
start_told word.Not (u ∷ us) = sym (not_cues (is cue.Starts) refl refl refl refl u.symbol)
start_told word.Times ts = refl
start_told k ts = start_cue k

none_is : (k : Keyword) (o : Option Start) → is_some o ≡ false → o ≡ None
none_is k None e = refl
none_is k (Some s) e = absurd cc

begin_none : (t : Sign) (ts : List Sign) → here cue.Starts (t ∷ ts) ≡ false → begin_of t ≡ None
begin_none t ts e = go t.symbol e
  where
    go : (y : Symbol) → on_mark procedure (is cue.Starts) (peek_on procedure (token_front y) ts) ≡ false → begin_on t.line (word_symbol start_key y) ≡ None
    go (Key k) e0 = ap (begin_on t.line) (none_is k (start_key k) (start_told k ts ∙ e0))
    go (Name text) e0 = refl
    go (Number n) e0 = refl
    go (Text text) e0 = refl
    go (Mark ch) e0 = refl
    go (Relation r) e0 = refl
    go (Pic text) e0 = refl
    go Stop e0 = refl

stops_there : (inner : Reader Sign Stmts) (room : ℕ) (ts : List Sign) → here cue.Starts ts ≡ false → seen make_stmts (plus (here cue.Starts) (stmt_with inner room)) ts ≡ Err (reader.Stop (length ts))
stops_there inner room [] e = refl
stops_there inner room (t ∷ ts) e = rw (begin_none t ts e) refl

pub statements_agree : Rooms → (room wide : ℕ) → room ≤ wide → Agrees (stmts_at room) (stmts_at wide)
unfolding stmts_at
statements_agree R zero zero le ts = inr refl
statements_agree R zero (suc wide) le ts = agree_full (here cue.Starts) (λ us. stmts_at (suc wide) us) (λ us e. stops_there (stmts_at wide) wide us e) ts
statements_agree R (suc room) zero le ts = absurd (omega arith)
statements_agree R (suc room) (suc wide) le ts = list_agree R room wide (omega arith) (stmts_at room) (stmts_at wide) (statements_agree R room wide (omega arith)) ts
