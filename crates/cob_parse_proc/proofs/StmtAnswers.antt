-- What the functions that read statements return, step by step, is what readers give.
use Rattle.std.proofs.Common.{◌≡◌, ◌≢◌, ℕ, zero, suc, ◌-◌, ◌+◌, Bool, true, false, List, [], ◌∷◌, length, Option, Some, None, Result, Ok, Err, refl, sym, ap, subst, ◌∙◌, arith}
use Rattle.cob_tree.specs.declared.keyword.Keyword.{Keyword}
use Rattle.cob_tree.specs.declared.keyword.Keyword.TheVariants as word
use Rattle.cob_tree.specs.Symbols.{Sign}
use Rattle.cob_tree.specs.Cues.{Starts, Whens, NotRelates}
use Rattle.cob_tree.specs.Cond.{Cond}
use Rattle.cob_tree.specs.Stmt.{Sel, Stmt, MkStmt, Verb, Stmts, Phrase, phrase_of, Tail, MkTail, When, MkWhen}
use Rattle.cob_tree.specs.Stmt as stmt
use Rattle.cob_tree.specs.Takes.{takes_stmts, takes_verb}
use Rattle.reading.specs.Readers.{Fault, Stop, Reader, ◌>>=◌, optional_on, optional, behind_on, behind, both_behind_on, both_behind}
use Rattle.reading.proofs.Results.{ok_is}
use Rattle.cob_parse_expr.specs.declared.halt.Halt.{Halt}
use Rattle.cob_parse_expr.specs.declared.halt.Halt.TheVariants as halt
use Rattle.cob_parse_expr.specs.Steps.{Fails}
use Rattle.cob_parse_expr.proofs.LexemeSteps.{fails_first, fails_second}
use Rattle.cob_parse_verb.specs.declared.word.Begin.{Begin}
use Rattle.cob_parse_verb.specs.Heads.{Arithmetic, Head, done, arithmetic, if_head, evaluate_head, perform_head, read_head, head_start, with_tail, takes_behind}
use Rattle.cob_parse_verb.specs.Reading.{head_at}
use Rattle.cob_parse_verb.specs.Turning.{choices_at}
use Rattle.cob_parse_verb.proofs.HeadLaws.{law_of_heads}
use Rattle.cob_parse_proc.specs.Reading.{here, one_word, error_with, when_with, stmt_with, stmts_at}
use Rattle.cob_parse_proc.specs.StmtSteps.{Branches, may, tail_may, branches_may, if_of, left_at, list_at, full_at, behind_error, end_at, tail_at, branches_at, chosen_at, cases_at, body_at, ends_at, verb_at, verb_may, on_line}
use Rattle.cob_parse_proc.proofs.NotLemmas.{sels_take, done_may, arithmetic_may, if_may}
use Rattle.cob_parse_proc.proofs.VerbSteps.{error_is, stmt_is, when_is}
use Rattle.cob_parse_proc.proofs.StmtLoops.{listed}

-- where two readings are one
pub fails_as : {B : Type 0} (h : Halt) (a b : Result B Fault) → a ≡ b → Fails h b → Fails h a
fails_as h a b e f = subst (Fails h) (sym e) f

module _ (inner : Reader Sign Stmts) where
  -- ---- a list that has to stand

  pub list_some : (takes : Bool) (ts : List Sign) → here Starts ts ≡ true → list_at inner takes ts ≡ inner ts
  list_some takes ts e = rw e refl

  pub list_none : (takes : Bool) (ts : List Sign) (n : ℕ) → here Starts ts ≡ false → n ≡ left_at takes ts → list_at inner takes ts ≡ Err (Stop n)
  list_none takes ts n e same = rw (e, same) refl

  -- ---- behind SIZE ERROR

  pub error_words : (o : Option (List Sign)) (ts : List Sign) (h : Halt) → Fails h (behind_error o) → Fails h (optional_on o (error_with inner) ts)
  error_words o ts h f = subst (Fails h) (sym (error_is inner o ts)) (fails_first h (behind_error o) (λ cut. optional_on cut inner ts) f)

  pub error_wrong : (o : Option (List Sign)) (ts : List Sign) (cut : Option (List Sign)) (h : Halt) → behind_error o ≡ Ok cut → Fails h (optional_on cut inner ts) → Fails h (optional_on o (error_with inner) ts)
  error_wrong o ts cut h e f = subst (Fails h) (sym (error_is inner o ts)) (fails_second h (behind_error o) (λ c. optional_on c inner ts) cut e f)

  pub error_read : (o : Option (List Sign)) (ts : List Sign) (cut : Option (List Sign)) (y : Option Stmts × List Sign) → behind_error o ≡ Ok cut → optional_on cut inner ts ≡ Ok y → optional_on o (error_with inner) ts ≡ Ok y
  error_read o ts cut y e r = error_is inner o ts ∙ rw e r

  -- ---- the phrases of arithmetic statements

  abbrev pub size_at : Reader Sign (Option Stmts)
  size_at = optional (behind (one_word word.Size)) (error_with inner)

  abbrev pub not_size_at : Reader Sign (Option Stmts)
  not_size_at = optional (both_behind (one_word word.Not) (one_word word.Size)) (error_with inner)

  module _ (k : Keyword) (ts : List Sign) where
    pub tail_first : (h : Halt) → Fails h (size_at ts) → Fails h (tail_at inner k ts)
    tail_first halt.Memory f = tt
    tail_first (halt.Stop n) f = rw f refl
    tail_first (halt.Deep n) f = rw f refl

    pub tail_second : (a : Option Stmts × List Sign) (h : Halt) → size_at ts ≡ Ok a → Fails h (not_size_at a.1) → Fails h (tail_at inner k ts)
    tail_second a halt.Memory e f = tt
    tail_second a (halt.Stop n) e f = rw (e, f) refl
    tail_second a (halt.Deep n) e f = rw (e, f) refl

    pub tail_read : (a b : Option Stmts × List Sign) (ended : Bool) (rest : List Sign) (t : Tail) → size_at ts ≡ Ok a → not_size_at a.1 ≡ Ok b → (ended, rest) ≡ end_at k b.1 → t ≡ MkTail (phrase_of a.0) (phrase_of b.0) ended → tail_at inner k ts ≡ Ok (t, rest)
    tail_read a b ended rest t e e' same st = rw (e, e', sym same, st) refl

  -- ---- behind the condition of IF

  module _ (takes : Bool) (ts : List Sign) where
    pub branches_first : (h : Halt) → Fails h (list_at inner takes ts) → Fails h (branches_at inner takes ts)
    branches_first halt.Memory f = tt
    branches_first (halt.Stop n) f = rw f refl
    branches_first (halt.Deep n) f = rw f refl

    module _ (x : Stmts × List Sign) (e : list_at inner takes ts ≡ Ok x) (o : Option (List Sign)) (cut : o ≡ behind (one_word word.Else) x.1) where
      branches_after : (h : Halt) → Fails h (optional (behind (one_word word.Else)) inner x.1) → Fails h (branches_at inner takes ts)
      branches_after halt.Memory f = tt
      branches_after (halt.Stop n) f = rw (e, f) refl
      branches_after (halt.Deep n) f = rw (e, f) refl

      pub branches_second : (h : Halt) → Fails h (optional_on o inner x.1) → Fails h (branches_at inner takes ts)
      branches_second h f = branches_after h (subst (λ (z : Option (List Sign)). Fails h (optional_on z inner x.1)) cut f)

      pub branches_read : (y : Option Stmts × List Sign) (ended : Bool) (rest : List Sign) → optional_on o inner x.1 ≡ Ok y → (ended, rest) ≡ end_at word.EndIf y.1 → branches_at inner takes ts ≡ Ok (((x.0, phrase_of y.0), ended), rest)
      branches_read y ended rest e' same =
          let read : optional (behind (one_word word.Else)) inner x.1 ≡ Ok y = subst (λ (z : Option (List Sign)). optional_on z inner x.1 ≡ Ok y) cut e' in
          rw (e, read, sym same) refl

  -- ---- an inline PERFORM

  module _ (takes : Bool) (ts : List Sign) where
    pub body_first : (h : Halt) → Fails h (list_at inner takes ts) → Fails h (body_at inner takes ts)
    body_first halt.Memory f = tt
    body_first (halt.Stop n) f = rw f refl
    body_first (halt.Deep n) f = rw f refl

    module _ (x : Stmts × List Sign) (e : list_at inner takes ts ≡ Ok x) where
      pub body_closed : (rest : List Sign) → Some rest ≡ behind (one_word word.EndPerform) x.1 → body_at inner takes ts ≡ Ok (x.0, rest)
      body_closed rest cut = rw (e, sym cut) refl

      pub body_open : (goes : Bool) (n : ℕ) → None ≡ behind (one_word word.EndPerform) x.1 → goes ≡ may (takes_stmts x.0) → n ≡ left_at goes x.1 → body_at inner takes ts ≡ Err (Stop n)
      body_open goes n cut same left =
          let count : left_at (may (takes_stmts x.0)) x.1 ≡ n = ap (λ (b : Bool). left_at b x.1) (sym same) ∙ sym left in
          rw (e, sym cut) (ap (λ (m : ℕ). Err (Stop m)) count)

  -- ---- READ

  module _ (ts : List Sign) (o : Option (List Sign)) (cut : o ≡ behind (one_word word.End) ts) where
    ends_begun : (h : Halt) → Fails h (optional (behind (one_word word.End)) inner ts) → Fails h (ends_at inner ts)
    ends_begun halt.Memory f = tt
    ends_begun (halt.Stop n) f = rw f refl
    ends_begun (halt.Deep n) f = rw f refl

    pub ends_first : (h : Halt) → Fails h (optional_on o inner ts) → Fails h (ends_at inner ts)
    ends_first h f = ends_begun h (subst (λ (z : Option (List Sign)). Fails h (optional_on z inner ts)) cut f)

    module _ (a : Option Stmts × List Sign) (e : optional_on o inner ts ≡ Ok a) (p : Option (List Sign)) (cut' : p ≡ both_behind (one_word word.Not) (one_word word.End) a.1) where
      front : optional (behind (one_word word.End)) inner ts ≡ Ok a
      front = subst (λ (z : Option (List Sign)). optional_on z inner ts ≡ Ok a) cut e

      ends_after : (h : Halt) → Fails h (optional (both_behind (one_word word.Not) (one_word word.End)) inner a.1) → Fails h (ends_at inner ts)
      ends_after halt.Memory f = tt
      ends_after (halt.Stop n) f = rw (front, f) refl
      ends_after (halt.Deep n) f = rw (front, f) refl

      pub ends_second : (h : Halt) → Fails h (optional_on p inner a.1) → Fails h (ends_at inner ts)
      ends_second h f = ends_after h (subst (λ (z : Option (List Sign)). Fails h (optional_on z inner a.1)) cut' f)

      pub ends_read : (b : Option Stmts × List Sign) (ended : Bool) (rest : List Sign) → optional_on p inner a.1 ≡ Ok b → (ended, rest) ≡ end_at word.EndRead b.1 → ends_at inner ts ≡ Ok (((phrase_of a.0, phrase_of b.0), ended), rest)
      ends_read b ended rest e' same =
          let back : optional (both_behind (one_word word.Not) (one_word word.End)) inner a.1 ≡ Ok b = subst (λ (z : Option (List Sign)). optional_on z inner a.1 ≡ Ok b) cut' e' in
          rw (front, back, sym same) refl

  -- ---- WHEN and EVALUATE

  module _ (room : ℕ) (ts us : List Sign) (xs : List Sel) (takes : Bool) (e : choices_at room ts ≡ Ok (xs, us)) (same : takes ≡ sels_take xs NotRelates) where
    pub when_second : (h : Halt) → Fails h (list_at inner takes us) → Fails h (when_with inner room ts)
    when_second h f = subst (Fails h) (sym (when_is inner room ts us xs takes e same)) (fails_first h (list_at inner takes us) (λ x. Ok (MkWhen xs x.0, x.1)) f)

    pub when_read : (ss : Stmts) (rest : List Sign) (w : When) → list_at inner takes us ≡ Ok (ss, rest) → w ≡ MkWhen xs ss → when_with inner room ts ≡ Ok (w, rest)
    when_read ss rest w e' ew = when_is inner room ts us xs takes e same ∙ (ap (λ (r : Result (Stmts × List Sign) Fault). r >>= λ x. Ok (MkWhen xs x.0, x.1)) e' ∙ ap (λ (z : When). Ok (z, rest)) (sym ew))

  module _ (room : ℕ) (ts : List Sign) where
    pub cases_none : (n : ℕ) → here Whens ts ≡ false → n ≡ length ts → cases_at inner room ts ≡ Err (Stop n)
    cases_none n e same = rw (e, same) refl

    pub cases_wrong : (h : Halt) → here Whens ts ≡ true → Fails h (chosen_at inner room ts) → Fails h (cases_at inner room ts)
    cases_wrong halt.Memory there f = tt
    cases_wrong (halt.Stop n) there f = rw (there, f) refl
    cases_wrong (halt.Deep n) there f = rw (there, f) refl

    pub cases_read : (x : (stmt.Whens × Phrase) × List Sign) (ended : Bool) (rest : List Sign) → here Whens ts ≡ true → chosen_at inner room ts ≡ Ok x → (ended, rest) ≡ end_at word.EndEvaluate x.1 → cases_at inner room ts ≡ Ok ((x.0, ended), rest)
    cases_read x ended rest there e same = rw (there, e, sym same) refl

  -- ---- one statement

  module _ (room : ℕ) (ts us : List Sign) (b : Begin) (h : Head) (takes : Bool) (e : head_at room ts ≡ Ok ((b, h), us)) (same : takes ≡ takes_behind h NotRelates) where
    pub stmt_second : (end : Halt) → Fails end (verb_at inner room takes h us) → Fails end (stmt_with inner room ts)
    stmt_second end f = subst (Fails end) (sym (stmt_is inner room ts us b h takes e same)) (fails_first end (verb_at inner room takes h us) (on_line b.line) f)

    pub stmt_read : (v : Verb) (rest : List Sign) (s : Stmt) → verb_at inner room takes h us ≡ Ok (v, rest) → s ≡ MkStmt b.line v → stmt_with inner room ts ≡ Ok (s, rest)
    stmt_read v rest s e' es = stmt_is inner room ts us b h takes e same ∙ (ap (λ (r : Result (Verb × List Sign) Fault). r >>= on_line b.line) e' ∙ ap (λ (z : Stmt). Ok (z, rest)) (sym es))

    started : head_start h ≡ None → ⊥
    started none =
        let some = ((law_of_heads room 0 (suc (0 + room)) refl).sound ts ((b, h), us) e).good.1 in
        let both : None ≡ Some b.start = sym none ∙ some in
        absurd cc

    pub stmt_takes : (v : Verb) (rest : List Sign) → verb_at inner room takes h us ≡ Ok (v, rest) → verb_may takes h v ≡ may (takes_verb v)
    stmt_takes v rest e' = go h started same e'
      where
        go : (g : Head) → (head_start g ≡ None → ⊥) → takes ≡ takes_behind g NotRelates → verb_at inner room takes g us ≡ Ok (v, rest) → verb_may takes g v ≡ may (takes_verb v)
        go (done w) some s got =
            let is : w ≡ v = ap (λ (z : Verb × List Sign). z.0) (ok_is (w, us) (v, rest) got) in
            s ∙ (sym (done_may w some) ∙ ap (λ (z : Verb). may (takes_verb z)) is)
        go (arithmetic a) some s got = refl
        go (if_head c) some s got = refl
        go (evaluate_head x) some s got = refl
        go (perform_head turns) some s got = refl
        go (read_head file into) some s got = refl

-- ---- whether NOT may go on

pub sum_takes : (a : Arithmetic) (t : Tail) (v : Verb) (takes : Bool) → v ≡ with_tail a t → takes ≡ tail_may t → takes ≡ may (takes_verb v)
sum_takes a t v takes ev e = e ∙ sym (ap (λ (z : Verb). may (takes_verb z)) ev ∙ arithmetic_may a t)

pub if_takes : (test : Cond) (b : Branches) (v : Verb) (takes : Bool) → v ≡ if_of test b → takes ≡ branches_may b → takes ≡ may (takes_verb v)
if_takes test b v takes ev e = e ∙ sym (ap (λ (z : Verb). may (takes_verb z)) ev ∙ if_may test b.0.0 b.0.1 b.1)

-- ---- two words

pub both_some : {T K K' : Type 0} (first : T → Option K) (second : T → Option K') (ts us : List T) → Some us ≡ behind first ts → behind second us ≡ both_behind first second ts
both_some first second [] us e = absurd cc
both_some {T} {K} first second (t ∷ ts) us e = go (first t) e
  where
    go : (o : Option K) → Some us ≡ behind_on o ts → behind second us ≡ both_behind_on o second ts
    go None e = absurd cc
    go (Some x) e = let same : us ≡ ts = cc in ap (behind second) same

pub both_none : {T K K' : Type 0} (first : T → Option K) (second : T → Option K') (ts : List T) → None ≡ behind first ts → None ≡ both_behind first second ts
both_none first second [] e = refl
both_none {T} {K} first second (t ∷ ts) e = go (first t) e
  where
    go : (o : Option K) → None ≡ behind_on o ts → None ≡ both_behind_on o second ts
    go None e = refl
    go (Some x) e = absurd cc

-- ---- statements

stmts_none : (ts : List Sign) → stmts_at zero ts ≡ full_at ts
unfolding stmts_at
stmts_none ts = refl

stmts_more : (room : ℕ) (ts : List Sign) → stmts_at (suc room) ts ≡ listed (stmt_with (stmts_at room) room) ts
unfolding stmts_at
stmts_more room ts = refl

pub stmts_full : (room : ℕ) (ts : List Sign) (h : Halt) → room ≡ 0 → Fails h (full_at ts) → Fails h (stmts_at room ts)
stmts_full room ts h e f = subst (λ (n : ℕ). Fails h (stmts_at n ts)) (sym e) (subst (Fails h) (sym (stmts_none ts)) f)

pub stmts_some : (room : ℕ) (ts : List Sign) → room ≢ 0 → stmts_at room ts ≡ listed (stmt_with (stmts_at (room - 1)) (room - 1)) ts
stmts_some room ts some =
    let k : suc (room - 1) ≡ room = omega arith in
    ap (λ (x : ℕ). stmts_at x ts) (sym k) ∙ stmts_more (room - 1) ts
