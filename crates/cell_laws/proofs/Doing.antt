-- What a program's statement with a number does can be done.
use Rattle.std.proofs.Common.{◌≡◌, ◌==◌, ℕ, Bool, true, false, List, [], ◌∷◌, Option, Some, None, subst}
use Rattle.std.specs.Prelude.{if◌then◌else◌}
use Rattle.std.proofs.lemmas.Option.{same_Some}
use Rattle.cob_data.specs.declared.layout.Layout.{Layout}
use Rattle.cob_program.specs.Act.{MkStmt, Stmts, no_stmts, more_stmts, Phrase, left_out, given, Act, arith, if_, evaluate, perform, read, Whens, no_whens, more_whens, MkWhen, Body, range, inline, Para, Program}
use Rattle.cob_runs.specs.Effects.{or_else, act_among, act_in_phrase, act_below, act_in_whens, act_in_body, act_in_paras, act_at}
use Rattle.cob_world.specs.Doing.{CanDo, CanDoPhrase, CanDoAct, CanDoWhens, CanDoBody, CanDoParas, CanDoProgram}

module _ (l : Layout) (n : ℕ) (a : Act) where
  either : (x y : Option Act) → or_else x y ≡ Some a → (x ≡ Some a → CanDoAct l a) → (y ≡ Some a → CanDoAct l a) → CanDoAct l a
  either None y e first second = second e
  either (Some b) y e first second = first e

  here_or : (b : Act) (same : Bool) (other : Option Act) → CanDoAct l b → (if same then Some b else other) ≡ Some a →
      (other ≡ Some a → CanDoAct l a) → CanDoAct l a
  here_or b true other can e later = subst (CanDoAct l) (same_Some _ _ e) can
  here_or b false other can e later = later e

  mutual
    in_list : (ss : Stmts) → CanDo l ss → act_among n ss ≡ Some a → CanDoAct l a
    in_list no_stmts can e = absurd (cc)
    in_list (more_stmts (MkStmt m line b) ss) can e =
        here_or b (n == m) (or_else (act_below n b) (act_among n ss)) can.0 e
        (λ f. either (act_below n b) (act_among n ss) f (in_act b can.0) (in_list ss can.1))

    in_phrase : (x : Phrase) → CanDoPhrase l x → act_in_phrase n x ≡ Some a → CanDoAct l a
    in_phrase left_out can e = absurd (cc)
    in_phrase (given ss) can e = in_list ss can e

    in_act : (b : Act) → CanDoAct l b → act_below n b ≡ Some a → CanDoAct l a
    in_act (arith s targets remainder size fine) can e =
        either (act_in_phrase n size) (act_among n fine) e (in_phrase size can.1) (in_list fine can.2)
    in_act (if_ t held other) can e = either (act_among n held) (act_among n other) e (in_list held can.1) (in_list other can.2)
    in_act (evaluate ws other) can e = either (act_in_whens n ws) (act_among n other) e (in_whens ws can.0) (in_list other can.1)
    in_act (perform body turns) can e = in_body body can.1 e
    in_act (read f into end fine) can e = either (act_in_phrase n end) (act_among n fine) e (in_phrase end can.0) (in_list fine can.1)
    in_act b can e = absurd (cc)

    in_whens : (ws : Whens) → CanDoWhens l ws → act_in_whens n ws ≡ Some a → CanDoAct l a
    in_whens no_whens can e = absurd (cc)
    in_whens (more_whens (MkWhen tests ss) ws) can e =
        either (act_among n ss) (act_in_whens n ws) e (in_list ss can.1) (in_whens ws can.2)

    in_body : (body : Body) → CanDoBody l body → act_in_body n body ≡ Some a → CanDoAct l a
    in_body (range first last) can e = absurd (cc)
    in_body (inline ss) can e = in_list ss can e

  among : (xs : List Para) → CanDoParas l xs → act_in_paras n xs ≡ Some a → CanDoAct l a
  among [] can e = absurd (cc)
  among (x ∷ xs) can e = either (act_among n x.body) (act_in_paras n xs) e (in_list x.body can.0) (among xs can.1)

pub can_do_at : (p : Program) → CanDoProgram p → (n : ℕ) (a : Act) → act_at p n ≡ Some a → CanDoAct p.layout a
can_do_at p can n a e = among p.layout n a p.paras can e
