-- Statements are read behind their heads.
use Rattle.std.proofs.Common.{◌≡◌, ℕ, ◌&&◌, Bool, true, false, List, [], ◌∷◌, length, Option, Some, None, is_some, Result, Ok, Err, refl, sym, ap, ◌∙◌}
use Rattle.cob_tree.specs.declared.keyword.Keyword.{Keyword}
use Rattle.cob_tree.specs.declared.keyword.Keyword.TheVariants as word
use Rattle.cob_tree.specs.declared.operand.Ref.{Ref}
use Rattle.cob_tree.specs.declared.stmt.Subject.{Subject}
use Rattle.cob_tree.specs.Symbols.{Symbol, Key, Sign}
use Rattle.cob_tree.specs.Cond.{Cond}
use Rattle.cob_tree.specs.Cues.{Cue, Starts, Whens, NotRelates}
use Rattle.cob_tree.specs.Stmt.{Sel, Loop, Stmt, Stmts, MkWhen, When}
use Rattle.cob_tree.specs.Takes.{takes_stmts}
use Rattle.reading.specs.Readers.{Fault, Stop, Reader, ◌>>=◌, lead, follow, seen, optional_on, optional, behind, both_behind, left_on, missing, need_on, need, stands}
use Rattle.reading.specs.Printing.{goes_by}
use Rattle.cob_parse_expr.specs.declared.halt.Halt.{Halt}
use Rattle.cob_parse_expr.specs.declared.halt.Halt.TheVariants as halt
use Rattle.cob_parse_expr.specs.Steps.{Fails}
use Rattle.cob_parse_expr.specs.LexemeClasses.{the}
use Rattle.cob_parse_verb.specs.declared.word.Begin.{Begin}
use Rattle.cob_parse_verb.specs.Procedure.{procedure, word_front, token_front}
use Rattle.cob_parse_verb.specs.Heads.{Arithmetic, Head, done, arithmetic, if_head, evaluate_head, perform_head, read_head, end_word, takes_behind}
use Rattle.cob_parse_verb.specs.Reading.{head_at}
use Rattle.cob_parse_verb.specs.Turning.{choices_at}
use Rattle.cob_parse_proc.specs.Reading.{here, one_word, nots, may_go, last, make_when, Case, whens_with, Inside, list_inside, inside_with, error_with, first_with, second_with, given_word, end_with, when_with, make_stmt, stmt_with}
use Rattle.cob_parse_proc.specs.StmtSteps.{may, left_at, list_on, list_at, behind_error, close_on, arithmetic_at, if_at, evaluate_at, perform_at, read_at, verb_at, on_line}
use Rattle.cob_parse_proc.proofs.NotLemmas.{if_head_may, perform_head_may, evaluate_head_may, choices_may, sels_take}

-- ---- where something has to stand

goes_not : (takes : Cue → Bool) (y : Symbol) → goes_by procedure nots takes (token_front y) ≡ (is_some (the word.Not y) && may takes)
goes_not takes (Key k) = at_key k
  where
    at_key : (j : Keyword) → goes_by procedure nots takes (word_front j) ≡ (is_some (the word.Not (Key j)) && may takes)
    at_key word.Not = refl
    at_key _ = refl
goes_not takes _ = refl

pub missing_is : {B : Type 0} (f : Cue → Bool) (takes : Bool) → takes ≡ may f → (ts : List Sign) → missing {B = B} (may_go f) ts ≡ Err (Stop (left_at takes ts))
missing_is f takes e [] = refl
missing_is f takes e (t ∷ ts) = ap (λ (b : Bool). Err (Stop (left_on b ts))) (goes_not f t.symbol ∙ ap (λ (b : Bool). is_some (one_word word.Not t) && b) (sym e))

not_left : (ts : List Sign) → left_at false ts ≡ length ts
not_left [] = refl
not_left (t ∷ ts) = ap (λ (b : Bool). left_on b ts) (go (is_some (one_word word.Not t)))
  where
    go : (b : Bool) → (b && false) ≡ false
    go true = refl
    go false = refl

module _ (inner : Reader Sign Stmts) where
  pub need_list : (f : Cue → Bool) (takes : Bool) → takes ≡ may f → (ts : List Sign) → need (here Starts) inner (may_go f) ts ≡ list_at inner takes ts
  need_list f takes e ts = go (here Starts ts)
    where
      go : (b : Bool) → need_on b inner (may_go f) ts ≡ list_on b inner takes ts
      go true = refl
      go false = missing_is f takes e ts

  need_inside : (f : Cue → Bool) (takes : Bool) → takes ≡ may f → (ts : List Sign) (r : Result (Stmts × List Sign) Fault) → list_at inner takes ts ≡ r → need (here Starts) (seen list_inside inner) (may_go f) ts ≡ (r >>= λ a. Ok (list_inside a.0, a.1))
  need_inside f takes e ts r er = go (here Starts ts) ∙ ap (λ (x : Result (Stmts × List Sign) Fault). x >>= λ a. Ok (list_inside a.0, a.1)) er
    where
      go : (b : Bool) → need_on b (seen list_inside inner) (may_go f) ts ≡ (list_on b inner takes ts >>= λ a. Ok (list_inside a.0, a.1))
      go true = refl
      go false = missing_is f takes e ts

closed_is : (f : Cue → Bool) (k : Keyword) (ts : List Sign) → need (stands (one_word k)) (seen given_word (lead (one_word k))) (may_go f) ts ≡ (close_on (behind (one_word k) ts) (may f) ts >>= λ rest. Ok (Some tt, rest))
closed_is f k [] = refl
closed_is f k (t ∷ ts) = go (one_word k t) refl
  where
    go : (o : Option (Unit {0})) → one_word k t ≡ o → need (stands (one_word k)) (seen given_word (lead (one_word k))) (may_go f) (t ∷ ts) ≡ (close_on (behind (one_word k) (t ∷ ts)) (may f) (t ∷ ts) >>= λ rest. Ok (Some tt, rest))
    go None e = rw e (missing_is f (may f) refl (t ∷ ts))
    go (Some x) e = rw e (rw e refl)

-- ---- ERROR behind SIZE

pub error_is : (inner : Reader Sign Stmts) (o : Option (List Sign)) (ts : List Sign) → optional_on o (error_with inner) ts ≡ (behind_error o >>= λ cut. optional_on cut inner ts)
error_is inner None ts = refl
error_is inner (Some us) ts = go (lead (one_word word.Error) us)
  where
    go : (r : Result (Unit {0} × List Sign) Fault) → optional_on (Some us) (seen last (follow (λ vs. r) (λ x. inner))) ts ≡ ((r >>= λ x. Ok (Some x.1)) >>= λ cut. optional_on cut inner ts)
    go (Err d) = refl
    go (Ok x) = next (inner x.1)
      where
        next : (r : Result (Stmts × List Sign) Fault) → optional_on (Some us) (seen last (follow (λ vs. Ok (x.0, us)) (λ y ws. r))) ts ≡ optional_on (Some us) (λ vs. r) ts
        next (Err d) = refl
        next (Ok y) = refl

-- ---- behind a head

module _ (inner : Reader Sign Stmts) (room : ℕ) where
  abbrev pub from : Reader Sign (Begin × Head) → Reader Sign Stmt
  from r = seen make_stmt (follow (follow (follow (follow r (λ x. inside_with inner room x.1)) (λ x. first_with inner x.0.1)) (λ x. second_with inner x.0.0.1)) (λ x. end_with x.0.0.0.1 x.0.0.1))

  abbrev pub on : Result ((Begin × Head) × List Sign) Fault → Result (Stmt × List Sign) Fault
  on read = from (λ ts. read) []

  abbrev begun : Begin → Head → List Sign → Result (Stmt × List Sign) Fault
  begun b h us = on (Ok ((b, h), us))

  arithmetic_is : (b : Begin) (a : Arithmetic) (us : List Sign) → begun b (arithmetic a) us ≡ (arithmetic_at inner a us >>= on_line b.line)
  arithmetic_is b a us = first (optional (behind (one_word word.Size)) (error_with inner) us) refl
    where
      ends : (x y : Option Stmts × List Sign) (o : Option (List Sign)) → optional (behind (one_word word.Size)) (error_with inner) us ≡ Ok x → optional (both_behind (one_word word.Not) (one_word word.Size)) (error_with inner) x.1 ≡ Ok y → behind (one_word (end_word a)) y.1 ≡ o
          → begun b (arithmetic a) us ≡ (arithmetic_at inner a us >>= on_line b.line)
      ends x y None e e' eo = rw (e, e', eo) refl
      ends x y (Some rest) e e' eo = rw (e, e', eo) refl

      second : (x : Option Stmts × List Sign) (r : Result (Option Stmts × List Sign) Fault) → optional (behind (one_word word.Size)) (error_with inner) us ≡ Ok x → optional (both_behind (one_word word.Not) (one_word word.Size)) (error_with inner) x.1 ≡ r → begun b (arithmetic a) us ≡ (arithmetic_at inner a us >>= on_line b.line)
      second x (Err d) e e' = rw (e, e') refl
      second x (Ok y) e e' = ends x y (behind (one_word (end_word a)) y.1) e e' refl

      first : (r : Result (Option Stmts × List Sign) Fault) → optional (behind (one_word word.Size)) (error_with inner) us ≡ r → begun b (arithmetic a) us ≡ (arithmetic_at inner a us >>= on_line b.line)
      first (Err d) e = rw e refl
      first (Ok x) e = second x (optional (both_behind (one_word word.Not) (one_word word.Size)) (error_with inner) x.1) e refl

  read_is : (b : Begin) (file : List ℕ) (into : Option Ref) (us : List Sign) → begun b (read_head file into) us ≡ (read_at inner file into us >>= on_line b.line)
  read_is b file into us = first (optional (behind (one_word word.End)) inner us) refl
    where
      ends : (x y : Option Stmts × List Sign) (o : Option (List Sign)) → optional (behind (one_word word.End)) inner us ≡ Ok x → optional (both_behind (one_word word.Not) (one_word word.End)) inner x.1 ≡ Ok y → behind (one_word word.EndRead) y.1 ≡ o
          → begun b (read_head file into) us ≡ (read_at inner file into us >>= on_line b.line)
      ends x y None e e' eo = rw (e, e', eo) refl
      ends x y (Some rest) e e' eo = rw (e, e', eo) refl

      second : (x : Option Stmts × List Sign) (r : Result (Option Stmts × List Sign) Fault) → optional (behind (one_word word.End)) inner us ≡ Ok x → optional (both_behind (one_word word.Not) (one_word word.End)) inner x.1 ≡ r → begun b (read_head file into) us ≡ (read_at inner file into us >>= on_line b.line)
      second x (Err d) e e' = rw (e, e') refl
      second x (Ok y) e e' = ends x y (behind (one_word word.EndRead) y.1) e e' refl

      first : (r : Result (Option Stmts × List Sign) Fault) → optional (behind (one_word word.End)) inner us ≡ r → begun b (read_head file into) us ≡ (read_at inner file into us >>= on_line b.line)
      first (Err d) e = rw e refl
      first (Ok x) e = second x (optional (both_behind (one_word word.Not) (one_word word.End)) inner x.1) e refl

  if_is : (b : Begin) (c : Cond) (takes : Bool) → takes ≡ may (takes_behind (if_head c)) → (us : List Sign) → begun b (if_head c) us ≡ (if_at inner c takes us >>= on_line b.line)
  if_is b c takes same us = first (list_at inner takes us) refl
    where
      inside : (r : Result (Stmts × List Sign) Fault) → list_at inner takes us ≡ r → need (here Starts) (seen list_inside inner) (may_go (takes_behind (if_head c))) us ≡ (r >>= λ a. Ok (list_inside a.0, a.1))
      inside r e = need_inside inner (takes_behind (if_head c)) takes same us r e

      ends : (x : Stmts × List Sign) (y : Option Stmts × List Sign) (o : Option (List Sign)) → list_at inner takes us ≡ Ok x → optional (behind (one_word word.Else)) inner x.1 ≡ Ok y → behind (one_word word.EndIf) y.1 ≡ o → begun b (if_head c) us ≡ (if_at inner c takes us >>= on_line b.line)
      ends x y None e e' eo = rw (inside (Ok x) e, e, e', eo) refl
      ends x y (Some rest) e e' eo = rw (inside (Ok x) e, e, e', eo) refl

      second : (x : Stmts × List Sign) (r : Result (Option Stmts × List Sign) Fault) → list_at inner takes us ≡ Ok x → optional (behind (one_word word.Else)) inner x.1 ≡ r → begun b (if_head c) us ≡ (if_at inner c takes us >>= on_line b.line)
      second x (Err d) e e' = rw (inside (Ok x) e, e, e') refl
      second x (Ok y) e e' = ends x y (behind (one_word word.EndIf) y.1) e e' refl

      first : (r : Result (Stmts × List Sign) Fault) → list_at inner takes us ≡ r → begun b (if_head c) us ≡ (if_at inner c takes us >>= on_line b.line)
      first (Err d) e = rw (inside (Err d) e, e) refl
      first (Ok x) e = second x (optional (behind (one_word word.Else)) inner x.1) e refl

  perform_is : (b : Begin) (turns : Option Loop) (takes : Bool) → takes ≡ may (takes_behind (perform_head turns)) → (us : List Sign) → begun b (perform_head turns) us ≡ (perform_at inner turns takes us >>= on_line b.line)
  perform_is b turns takes same us = first (list_at inner takes us) refl
    where
      inside : (r : Result (Stmts × List Sign) Fault) → list_at inner takes us ≡ r → need (here Starts) (seen list_inside inner) (may_go (takes_behind (perform_head turns))) us ≡ (r >>= λ a. Ok (list_inside a.0, a.1))
      inside r e = need_inside inner (takes_behind (perform_head turns)) takes same us r e

      closes : (x : Stmts × List Sign) (o : Option (List Sign)) → list_at inner takes us ≡ Ok x → behind (one_word word.EndPerform) x.1 ≡ o → begun b (perform_head turns) us ≡ (perform_at inner turns takes us >>= on_line b.line)
      closes x None e eo = rw (inside (Ok x) e, e, closed_is (takes_stmts x.0) word.EndPerform x.1, eo) refl
      closes x (Some rest) e eo = rw (inside (Ok x) e, e, closed_is (takes_stmts x.0) word.EndPerform x.1, eo) refl

      first : (r : Result (Stmts × List Sign) Fault) → list_at inner takes us ≡ r → begun b (perform_head turns) us ≡ (perform_at inner turns takes us >>= on_line b.line)
      first (Err d) e = rw (inside (Err d) e, e) refl
      first (Ok x) e = closes x (behind (one_word word.EndPerform) x.1) e refl

  evaluate_is : (b : Begin) (s : Subject) (us : List Sign) → begun b (evaluate_head s) us ≡ (evaluate_at inner room s us >>= on_line b.line)
  evaluate_is b s us = at (here Whens us) refl
    where
      ends : (x : (When × List Case) × List Sign) (o : Option (List Sign)) → here Whens us ≡ true → whens_with inner room us ≡ Ok x → behind (one_word word.EndEvaluate) x.1 ≡ o → begun b (evaluate_head s) us ≡ (evaluate_at inner room s us >>= on_line b.line)
      ends x None eh e eo = rw (eh, e, eo) refl
      ends x (Some rest) eh e eo = rw (eh, e, eo) refl

      whens : (r : Result ((When × List Case) × List Sign) Fault) → here Whens us ≡ true → whens_with inner room us ≡ r → begun b (evaluate_head s) us ≡ (evaluate_at inner room s us >>= on_line b.line)
      whens (Err d) eh e = rw (eh, e) refl
      whens (Ok x) eh e = ends x (behind (one_word word.EndEvaluate) x.1) eh e refl

      at : (h : Bool) → here Whens us ≡ h → begun b (evaluate_head s) us ≡ (evaluate_at inner room s us >>= on_line b.line)
      at true eh = whens (whens_with inner room us) eh refl
      at false eh = rw (eh, missing_is {B = Inside} (takes_behind (evaluate_head s)) false (sym (evaluate_head_may s)) us, not_left us) refl

  verb_is : (b : Begin) (h : Head) (takes : Bool) → takes ≡ takes_behind h NotRelates → (us : List Sign) → begun b h us ≡ (verb_at inner room takes h us >>= on_line b.line)
  verb_is b (done v) takes e us = refl
  verb_is b (arithmetic a) takes e us = arithmetic_is b a us
  verb_is b (if_head c) takes e us = if_is b c takes (e ∙ sym (if_head_may c)) us
  verb_is b (evaluate_head s) takes e us = evaluate_is b s us
  verb_is b (perform_head turns) takes e us = perform_is b turns takes (e ∙ sym (perform_head_may turns)) us
  verb_is b (read_head file into) takes e us = read_is b file into us

  pub stmt_is : (ts us : List Sign) (b : Begin) (h : Head) (takes : Bool) → head_at room ts ≡ Ok ((b, h), us) → takes ≡ takes_behind h NotRelates → stmt_with inner room ts ≡ (verb_at inner room takes h us >>= on_line b.line)
  stmt_is ts us b h takes e same = ap on e ∙ verb_is b h takes same us

  pub stmt_wrong : (ts : List Sign) (h : Halt) → Fails h (head_at room ts) → Fails h (stmt_with inner room ts)
  stmt_wrong ts halt.Memory f = tt
  stmt_wrong ts (halt.Stop n) f = ap on f
  stmt_wrong ts (halt.Deep n) f = ap on f

  -- ---- WHEN

  abbrev when_on : Result (List Sel × List Sign) Fault → Result (When × List Sign) Fault
  when_on read = seen make_when (follow (λ vs. read) (λ xs. need (here Starts) inner (may_go (sels_take xs)))) []

  pub when_is : (ts us : List Sign) (xs : List Sel) (takes : Bool) → choices_at room ts ≡ Ok (xs, us) → takes ≡ sels_take xs NotRelates → when_with inner room ts ≡ (list_at inner takes us >>= λ x. Ok (MkWhen xs x.0, x.1))
  when_is ts us xs takes e same = ap when_on e ∙ go (list_at inner takes us) (need_list inner (sels_take xs) takes (same ∙ sym (choices_may xs)) us)
    where
      go : (r : Result (Stmts × List Sign) Fault) → need (here Starts) inner (may_go (sels_take xs)) us ≡ r → when_on (Ok (xs, us)) ≡ (r >>= λ x. Ok (MkWhen xs x.0, x.1))
      go (Err d) er = rw er refl
      go (Ok x) er = rw er refl

  pub when_wrong : (ts : List Sign) (h : Halt) → Fails h (choices_at room ts) → Fails h (when_with inner room ts)
  when_wrong ts halt.Memory f = tt
  when_wrong ts (halt.Stop n) f = rw f refl
  when_wrong ts (halt.Deep n) f = rw f refl
