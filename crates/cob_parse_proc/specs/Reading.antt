-- How statements are read.
use Rattle.std.specs.Prelude.{ℕ, zero, suc, ◌⊎◌, ◌&&◌, not, Bool, true, false, List, [], ◌∷◌, Option, Some, None, is_some, Ok}
use Rattle.std.proofs.Common.{inl, inr}
use Rattle.cob_tree.specs.declared.keyword.Keyword.{Keyword}
use Rattle.cob_tree.specs.declared.keyword.Keyword.TheVariants as word
use Rattle.cob_tree.specs.Symbols.{Sign}
use Rattle.cob_tree.specs.Cues.{Cue, is, Starts, NotRelates, NotTests, NotSize, NotAtEnd}
use Rattle.cob_tree.specs.Cues as cue
use Rattle.cob_tree.specs.Stmt.{Sel, Stmt, MkStmt, Verb, if_, evaluate, perform_inline, continue, read, Stmts, more_stmts, stmts_of, Phrase, left_out, given, phrase_of, MkTail, Whens, no_whens, more_whens, When, MkWhen}
use Rattle.cob_tree.specs.Takes.{takes_sel}
use Rattle.reading.specs.Readers.{Reader, nothing, lead, follow, branch, seen, choose, optional, behind, both_behind, many_from, plus, need, must, stands, full}
use Rattle.reading.specs.Printing.{begins, goes_on}
use Rattle.cob_parse_expr.specs.LexemeClasses.{of, the}
use Rattle.cob_parse_verb.specs.declared.word.Begin.{Begin}
use Rattle.cob_parse_verb.specs.Procedure.{procedure}
use Rattle.cob_parse_verb.specs.Heads.{Head, done, arithmetic, if_head, evaluate_head, perform_head, read_head, with_tail, end_word, takes_behind}
use Rattle.cob_parse_verb.specs.Reading.{head_at}
use Rattle.cob_parse_verb.specs.Turning.{choices_at}
use Rattle.cob_parse_verb.specs.Listed.{takes_listed}
use Rattle.cob_parse_proc.specs.Bare.{list_takes}

-- a token with the cue stands first
abbrev pub here : Cue → List Sign → Bool
here c ts = begins procedure (is c) ts

-- one reserved word
abbrev pub one_word : Keyword → Sign → Option (Unit {0})
one_word k = of (the k)

-- what NOT may begin
abbrev pub nots : List Cue
nots = NotRelates ∷ NotTests ∷ NotSize ∷ NotAtEnd ∷ []

-- whether what takes such cues may go on with the token, where that is NOT
abbrev pub may_go : (Cue → Bool) → Sign → Bool
may_go takes t = goes_on procedure nots takes t

abbrev pub last : {A B : Type 0} → A × B → B
last x = x.1

-- ---- WHEN

abbrev pub make_when : List Sel × Stmts → When
make_when x = MkWhen x.0 x.1

abbrev pub when_with : Reader Sign Stmts → ℕ → Reader Sign When
when_with inner room = seen make_when (must (choices_at room) (λ xs. may_go (takes_listed takes_sel (is cue.Whens) xs)) (here Starts) inner)

-- what stands behind WHEN OTHER
abbrev pub other_with : Reader Sign Stmts → Reader Sign Stmts
other_with inner = seen last (branch (one_word word.When) (λ x. seen last (branch (one_word word.Other) (λ y. inner))))

abbrev pub other_stands : List Sign → Bool
other_stands ts = is_some (both_behind (one_word word.When) (one_word word.Other) ts)

abbrev pub Case : Type 0
Case = Stmts ⊎ When

abbrev pub case_with : Reader Sign Stmts → ℕ → Reader Sign Case
case_with inner room = choose other_stands (other_with inner) (when_with inner room)

-- the case is WHEN OTHER, behind which none stands
abbrev pub is_other : Bool → Case → Bool
is_other ended (inl ss) = true
is_other ended (inr w) = false

abbrev pub more_cases : Bool → Cue → Bool
more_cases ended p = not ended && is cue.Whens p

abbrev pub cases_with : Reader Sign Stmts → ℕ → Reader Sign (List Case)
cases_with inner room = many_from (λ ended ts. begins procedure (more_cases ended) ts) (λ ended. case_with inner room) is_other false

abbrev pub whens_with : Reader Sign Stmts → ℕ → Reader Sign (When × List Case)
whens_with inner room = follow (when_with inner room) (λ w. cases_with inner room)

abbrev pub whens_in : List Case → Whens
whens_in [] = no_whens
whens_in (inl ss ∷ cs) = whens_in cs
whens_in (inr w ∷ cs) = more_whens w (whens_in cs)

abbrev pub other_in : List Case → Phrase
other_in [] = left_out
other_in (inl ss ∷ cs) = given ss
other_in (inr w ∷ cs) = other_in cs

-- ---- what stands behind a head, before its phrases

pub data Inside : Type 0 where
  no_inside : Inside
  list_inside : Stmts → Inside
  whens_inside : When → List Case → Inside

abbrev pub make_whens : When × List Case → Inside
make_whens x = whens_inside x.0 x.1

abbrev pub list_with : Reader Sign Stmts → Head → Reader Sign Inside
list_with inner h = need (here Starts) (seen list_inside inner) (may_go (takes_behind h))

abbrev pub inside_with : Reader Sign Stmts → ℕ → Head → Reader Sign Inside
inside_with inner room (done v) ts = Ok (no_inside, ts)
inside_with inner room (arithmetic a) ts = Ok (no_inside, ts)
inside_with inner room (if_head c) ts = list_with inner (if_head c) ts
inside_with inner room (evaluate_head s) ts = need (here cue.Whens) (seen make_whens (whens_with inner room)) (may_go (takes_behind (evaluate_head s))) ts
inside_with inner room (perform_head turns) ts = list_with inner (perform_head turns) ts
inside_with inner room (read_head file into) ts = Ok (no_inside, ts)

abbrev pub inside_takes : Inside → Cue → Bool
inside_takes (list_inside ss) p = list_takes ss p
inside_takes _ p = false

-- ---- phrases

-- What stands behind SIZE.
abbrev pub error_with : Reader Sign Stmts → Reader Sign Stmts
error_with inner = seen last (branch (one_word word.Error) (λ x. inner))

abbrev pub first_with : Reader Sign Stmts → Head → Reader Sign (Option Stmts)
first_with inner (done v) ts = Ok (None, ts)
first_with inner (arithmetic a) ts = optional (behind (one_word word.Size)) (error_with inner) ts
first_with inner (if_head c) ts = optional (behind (one_word word.Else)) inner ts
first_with inner (evaluate_head s) ts = Ok (None, ts)
first_with inner (perform_head turns) ts = Ok (None, ts)
first_with inner (read_head file into) ts = optional (behind (one_word word.End)) inner ts

abbrev pub second_with : Reader Sign Stmts → Head → Reader Sign (Option Stmts)
second_with inner (done v) ts = Ok (None, ts)
second_with inner (arithmetic a) ts = optional (both_behind (one_word word.Not) (one_word word.Size)) (error_with inner) ts
second_with inner (if_head c) ts = Ok (None, ts)
second_with inner (evaluate_head s) ts = Ok (None, ts)
second_with inner (perform_head turns) ts = Ok (None, ts)
second_with inner (read_head file into) ts = optional (both_behind (one_word word.Not) (one_word word.End)) inner ts

-- ---- END- words

abbrev pub ended_with : Keyword → Reader Sign (Option (Unit {0}))
ended_with k = optional (behind (one_word k)) nothing

abbrev pub given_word : Unit {0} → Option (Unit {0})
given_word x = Some x

-- END-PERFORM has to stand
abbrev pub closed_with : Inside → Reader Sign (Option (Unit {0}))
closed_with i = need (stands (one_word word.EndPerform)) (seen given_word (lead (one_word word.EndPerform))) (may_go (inside_takes i))

abbrev pub end_with : Head → Inside → Reader Sign (Option (Unit {0}))
end_with (done v) i ts = Ok (None, ts)
end_with (arithmetic a) i ts = ended_with (end_word a) ts
end_with (if_head c) i ts = ended_with word.EndIf ts
end_with (evaluate_head s) i ts = ended_with word.EndEvaluate ts
end_with (perform_head turns) i ts = closed_with i ts
end_with (read_head file into) i ts = ended_with word.EndRead ts

-- ---- statements

abbrev pub verb_of : Head → Inside → Option Stmts → Option Stmts → Bool → Verb
verb_of (done v) i first second ended = v
verb_of (arithmetic a) i first second ended = with_tail a (MkTail (phrase_of first) (phrase_of second) ended)
verb_of (if_head c) (list_inside ss) first second ended = if_ c ss (phrase_of first) ended
verb_of (evaluate_head s) (whens_inside w cs) first second ended = evaluate s (more_whens w (whens_in cs)) (other_in cs) ended
verb_of (perform_head turns) (list_inside ss) first second ended = perform_inline turns ss
verb_of (read_head file into) i first second ended = read file into (phrase_of first) (phrase_of second) ended
verb_of _ i first second ended = continue

abbrev pub Begun : Type 0
Begun = (Begin × Head) × Inside

abbrev pub Parts : Type 0
Parts = ((Begun × Option Stmts) × Option Stmts) × Option (Unit {0})

abbrev pub make_stmt : Parts → Stmt
make_stmt x = MkStmt x.0.0.0.0.0.line (verb_of x.0.0.0.0.1 x.0.0.0.1 x.0.0.1 x.0.1 (is_some x.1))

module _ (inner : Reader Sign Stmts) (room : ℕ) where
  abbrev pub begun_with : Reader Sign Begun
  begun_with = follow (head_at room) (λ x. inside_with inner room x.1)

  abbrev pub one_phrase : Reader Sign (Begun × Option Stmts)
  one_phrase = follow begun_with (λ x. first_with inner x.0.1)

  abbrev pub two_phrases : Reader Sign ((Begun × Option Stmts) × Option Stmts)
  two_phrases = follow one_phrase (λ x. second_with inner x.0.0.1)

  abbrev pub parts_with : Reader Sign Parts
  parts_with = follow two_phrases (λ x. end_with x.0.0.0.1 x.0.0.1)

  abbrev pub stmt_with : Reader Sign Stmt
  stmt_with = seen make_stmt parts_with

abbrev pub make_stmts : Stmt × List Stmt → Stmts
make_stmts x = more_stmts x.0 (stmts_of x.1)

-- statements, where so many more statements and parentheses may open
unfoldable pub stmts_at : ℕ → Reader Sign Stmts
stmts_at zero ts = full (here Starts) ts
stmts_at (suc room) ts = seen make_stmts (plus (here Starts) (stmt_with (stmts_at room) room)) ts
