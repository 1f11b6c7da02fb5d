-- What one function says of the part of a statement that it read.
use Rattle.std.specs.Prelude.{ℕ, ◌&&◌, not, Bool, true, false, List, [], ◌∷◌, length, Option, Some, None, is_some, Result, Ok, Err, Vec, map}
use Rattle.std.specs.Option.{option_map}
use Rattle.std.specs.declared.alloc.Global.{Global}
use Rattle.cob_tree.specs.declared.keyword.Keyword.{Keyword}
use Rattle.cob_tree.specs.declared.keyword.Keyword.TheVariants as word
use Rattle.cob_tree.specs.declared.operand.Ref.{Ref}
use Rattle.cob_tree.specs.declared.stmt.Stmt as declared
use Rattle.cob_tree.specs.declared.stmt.Subject.{Subject}
use Rattle.cob_tree.specs.Symbols.{Sign}
use Rattle.cob_tree.specs.Cond.{Cond}
use Rattle.cob_tree.specs.Cues.{Cue, Starts, Whens}
use Rattle.cob_tree.specs.Stmt.{Loop, Stmt, MkStmt, Verb, if_, evaluate, perform_inline, read, Stmts, stmts_of, Phrase, left_out, given, phrase_of, Tail, MkTail, more_whens, whens_of, When}
use Rattle.cob_tree.specs.Stmt as stmt
use Rattle.cob_tree.specs.StmtView.{plain_stmt, plain_when}
use Rattle.cob_tree.specs.Takes.{takes_stmts, takes_whens, takes_verb}
use Rattle.reading.specs.Readers.{Fault, Stop, Reader, ◌>>=◌, lead, seen, behind, optional, both_behind, left_on, full}
use Rattle.reading.specs.Printing.{any_of}
use Rattle.cob_parse_verb.specs.Procedure.{procedure}
use Rattle.cob_parse_verb.specs.Heads.{Arithmetic, Head, done, arithmetic, if_head, evaluate_head, perform_head, read_head, with_tail, end_word}
use Rattle.cob_parse_proc.specs.declared.verb.Branches as declared_branches
use Rattle.cob_parse_proc.specs.declared.verb.Cases as declared_cases
use Rattle.cob_parse_proc.specs.declared.verb.Ends as declared_ends
use Rattle.cob_parse_proc.specs.Reading.{here, one_word, nots, Case, whens_with, whens_in, other_in, error_with}

-- ---- what contracts see of lists

abbrev pub plain_list : Vec declared.Stmt Global → Stmts
plain_list v = stmts_of (map plain_stmt v.items)

abbrev pub plain_phrase : Option (Vec declared.Stmt Global) → Phrase
plain_phrase o = phrase_of (option_map plain_list o)

-- ---- NOT

-- whether what takes so may go on with NOT
abbrev pub may : (Cue → Bool) → Bool
may takes = any_of procedure takes nots

abbrev pub phrase_may : Phrase → Bool → Bool
phrase_may left_out before = before
phrase_may (given ss) before = may (takes_stmts ss)

abbrev pub tail_may : Tail → Bool
tail_may (MkTail size not_size ended) = not ended && phrase_may not_size true

-- The verb of a statement behind its head, which may go on with NOT or may not.
abbrev pub verb_may : Bool → Head → Verb → Bool
verb_may takes (done v) w = takes
verb_may takes h w = may (takes_verb w)

-- how many tokens are left where something doesn't begin, behind what may go on with NOT or may not
abbrev pub left_at : Bool → List Sign → ℕ
left_at takes [] = 0
left_at takes (t ∷ ts) = left_on (is_some (one_word word.Not t) && takes) ts

-- ---- parts of statements

-- A list of statements where no more may open.
abbrev pub full_at : Reader Sign Stmts
full_at = full (here Starts)

-- a list that has to stand
abbrev pub list_on : Bool → Reader Sign Stmts → Bool → Reader Sign Stmts
list_on true inner takes ts = inner ts
list_on false inner takes ts = Err (Stop (left_at takes ts))

abbrev pub list_at : Reader Sign Stmts → Bool → Reader Sign Stmts
list_at inner takes ts = list_on (here Starts ts) inner takes ts

-- ERROR has to stand behind SIZE.
abbrev pub behind_error : Option (List Sign) → Result (Option (List Sign)) Fault
behind_error None = Ok None
behind_error (Some ts) = lead (one_word word.Error) ts >>= λ x. Ok (Some x.1)

abbrev pub end_on : Option (List Sign) → List Sign → Bool × List Sign
end_on None ts = (false, ts)
end_on (Some rest) ts = (true, rest)

-- whether the END- word stands, and what is behind it
abbrev pub end_at : Keyword → List Sign → Bool × List Sign
end_at k ts = end_on (behind (one_word k) ts) ts

abbrev pub close_on : Option (List Sign) → Bool → List Sign → Result (List Sign) Fault
close_on None takes ts = Err (Stop (left_at takes ts))
close_on (Some rest) takes ts = Ok rest

-- END-PERFORM has to stand
abbrev pub close_at : Bool → List Sign → Result (List Sign) Fault
close_at takes ts = close_on (behind (one_word word.EndPerform) ts) takes ts

abbrev pub make_chosen : When × List Case → stmt.Whens × Phrase
make_chosen x = (more_whens x.0 (whens_in x.1), other_in x.1)

-- ---- what is read behind a head

-- the two lists of IF, and whether END-IF stands
abbrev pub Branches : Type 0
Branches = (Stmts × Phrase) × Bool

-- what EVALUATE chooses from, and whether END-EVALUATE stands
abbrev pub Cases : Type 0
Cases = (stmt.Whens × Phrase) × Bool

-- what READ does at the file's end and before it, and whether END-READ stands
abbrev pub Ends : Type 0
Ends = (Phrase × Phrase) × Bool

abbrev pub plain_branches : declared_branches.Branches → Branches
plain_branches b = ((plain_list b.yes, plain_phrase b.other), b.ended)

abbrev pub plain_cases : declared_cases.Cases → Cases
plain_cases c = ((whens_of (map plain_when c.whens.items), plain_phrase c.other), c.ended)

abbrev pub plain_ends : declared_ends.Ends → Ends
plain_ends e = ((plain_phrase e.end, plain_phrase e.not_end), e.ended)

abbrev pub branches_may : Branches → Bool
branches_may b = not b.1 && phrase_may b.0.1 (may (takes_stmts b.0.0))

abbrev pub cases_may : Cases → Bool
cases_may c = not c.1 && phrase_may c.0.1 (may (takes_whens c.0.0))

abbrev pub ends_may : Ends → Bool
ends_may e = not e.1 && phrase_may e.0.1 true

abbrev pub if_of : Cond → Branches → Verb
if_of test b = if_ test b.0.0 b.0.1 b.1

abbrev pub evaluate_of : Subject → Cases → Verb
evaluate_of subject c = evaluate subject c.0.0 c.0.1 c.1

abbrev pub read_of : List ℕ → Option Ref → Ends → Verb
read_of file into e = read file into e.0.0 e.0.1 e.1

-- ---- behind the heads

module _ (inner : Reader Sign Stmts) where
  abbrev pub tail_at : Keyword → Reader Sign Tail
  tail_at end ts =
      optional (behind (one_word word.Size)) (error_with inner) ts
      >>= λ a. optional (both_behind (one_word word.Not) (one_word word.Size)) (error_with inner) a.1
      >>= λ b. Ok (MkTail (phrase_of a.0) (phrase_of b.0) (end_at end b.1).0, (end_at end b.1).1)

  abbrev pub branches_at : Bool → Reader Sign Branches
  branches_at takes ts =
      list_at inner takes ts >>= λ a. optional (behind (one_word word.Else)) inner a.1
      >>= λ b. Ok (((a.0, phrase_of b.0), (end_at word.EndIf b.1).0), (end_at word.EndIf b.1).1)

  abbrev pub chosen_at : ℕ → Reader Sign (stmt.Whens × Phrase)
  chosen_at room = seen make_chosen (whens_with inner room)

  abbrev pub cases_on : Bool → ℕ → Reader Sign Cases
  cases_on true room ts = chosen_at room ts >>= λ a. Ok ((a.0, (end_at word.EndEvaluate a.1).0), (end_at word.EndEvaluate a.1).1)
  cases_on false room ts = Err (Stop (length ts))

  abbrev pub cases_at : ℕ → Reader Sign Cases
  cases_at room ts = cases_on (here Whens ts) room ts

  abbrev pub body_at : Bool → Reader Sign Stmts
  body_at takes ts = list_at inner takes ts >>= λ a. close_at (may (takes_stmts a.0)) a.1 >>= λ rest. Ok (a.0, rest)

  abbrev pub ends_at : Reader Sign Ends
  ends_at ts =
      optional (behind (one_word word.End)) inner ts
      >>= λ a. optional (both_behind (one_word word.Not) (one_word word.End)) inner a.1
      >>= λ b. Ok (((phrase_of a.0, phrase_of b.0), (end_at word.EndRead b.1).0), (end_at word.EndRead b.1).1)

  abbrev pub arithmetic_at : Arithmetic → Reader Sign Verb
  arithmetic_at a = seen (with_tail a) (tail_at (end_word a))

  abbrev pub if_at : Cond → Bool → Reader Sign Verb
  if_at test takes = seen (if_of test) (branches_at takes)

  abbrev pub evaluate_at : ℕ → Subject → Reader Sign Verb
  evaluate_at room subject = seen (evaluate_of subject) (cases_at room)

  abbrev pub perform_at : Option Loop → Bool → Reader Sign Verb
  perform_at turns takes = seen (perform_inline turns) (body_at takes)

  abbrev pub read_at : List ℕ → Option Ref → Reader Sign Verb
  read_at file into = seen (read_of file into) ends_at

  -- What is read behind a head, which may go on with NOT or may not.
  abbrev pub verb_at : ℕ → Bool → Head → Reader Sign Verb
  verb_at room takes (done v) ts = Ok (v, ts)
  verb_at room takes (arithmetic a) ts = arithmetic_at a ts
  verb_at room takes (if_head test) ts = if_at test takes ts
  verb_at room takes (evaluate_head subject) ts = evaluate_at room subject ts
  verb_at room takes (perform_head turns) ts = perform_at turns takes ts
  verb_at room takes (read_head file into) ts = read_at file into ts

abbrev pub on_line : ℕ → Verb × List Sign → Result (Stmt × List Sign) Fault
on_line line v = Ok (MkStmt line v.0, v.1)
