-- Each listed statement is found by its number, and can be done.
use Rattle.std.proofs.Common.{◌≡◌, List, [], ◌∷◌, ◌++◌, map, refl, sym, subst}
use Rattle.std.specs.List.{All, AllByRecursion}
use Rattle.std.specs.Prelude.{Some}
use Rattle.std.proofs.lemmas.List.Elements.{All-from_recursion}
use Rattle.cob_data.specs.declared.layout.Layout.{Layout}
use Rattle.cob_program.specs.Logic.{Logic, all_of, any_of, not_, test, Logics, no_logics, more_logics}
use Rattle.cob_program.specs.Act.{Turns, until, varying, Stmt, MkStmt, Stmts, no_stmts, more_stmts, Phrase, left_out, given, Act, arith, if_, evaluate, perform, read, Whens, no_whens, more_whens, MkWhen, Body, range, inline, Para, Program}
use Rattle.cob_program.specs.Statements.{list_statements, phrase_statements, inner_statements, whens_statements, body_statements, para_statements, paras_statements, program_statements}
use Rattle.cob_runs.specs.Effects.{act_at, tests_of, tests_among, tests_in_list, tests_in_whens, tests_in_turns, tests_in_act}
use Rattle.cob_graph.specs.WellFormed.{AreWellFormed, IsWellFormedPhrase, IsWellFormedAct, AreWellFormedWhens, IsWellFormedBody, AreWellFormedParas, IsWellFormed}
use Rattle.cob_calc.specs.Comparing.{CanTest, CanDecide, CanDecideAll}
use Rattle.cob_world.specs.Doing.{CanTurn, CanDo, CanDoPhrase, CanDoAct, CanDoWhens, CanDoBody, CanDoParas, CanDoProgram}
use Rattle.cob_plan.specs.declared.statement.Statement.{Statement}
use Rattle.cob_plan.specs.Listing.{Listed, plain_statements, listed_at, listed}
use Rattle.cob_plan.specs.Plan.{IsStatement}

both : {A : Type 0} (P : A → Type 0) (xs ys : List A) → AllByRecursion P xs → AllByRecursion P ys →
    AllByRecursion P (xs ++ ys)
both P [] ys h k = k
both P (x ∷ xs) ys h k = (h.0, both P xs ys h.1 k)

-- ---- the simple conditions of what can be decided

module _ (l : Layout) where
  mutual
    able_logic : (t : Logic) → CanDecide l t → AllByRecursion (CanTest l) (tests_of t)
    able_logic (all_of ts) h = able_logics ts h
    able_logic (any_of ts) h = able_logics ts h
    able_logic (not_ t) h = able_logic t h
    able_logic (test t) h = (h, tt)

    able_logics : (ts : Logics) → CanDecideAll l ts → AllByRecursion (CanTest l) (tests_among ts)
    able_logics no_logics h = tt
    able_logics (more_logics t ts) h =
        both (CanTest l) (tests_of t) (tests_among ts) (able_logic t h.0) (able_logics ts h.1)

  able_list : (ts : List Logic) → AllByRecursion (CanDecide l) ts → AllByRecursion (CanTest l) (tests_in_list ts)
  able_list [] h = tt
  able_list (t ∷ ts) h = both (CanTest l) (tests_of t) (tests_in_list ts) (able_logic t h.0) (able_list ts h.1)

  able_whens : (ws : Whens) → CanDoWhens l ws → AllByRecursion (CanTest l) (tests_in_whens ws)
  able_whens no_whens h = tt
  able_whens (more_whens (MkWhen ts ss) ws) h =
      both (CanTest l) (tests_in_list ts) (tests_in_whens ws) (able_list ts h.0) (able_whens ws h.2)

  able_turns : (t : Turns) → CanTurn l t → AllByRecursion (CanTest l) (tests_in_turns t)
  able_turns (until after t) h = able_logic t h
  able_turns (varying after place start by t) h = able_logic t h.1
  able_turns _ h = tt

  able_act : (a : Act) → CanDoAct l a → AllByRecursion (CanTest l) (tests_in_act a)
  able_act (if_ t held other) h = able_logic t h.0
  able_act (evaluate ws other) h = able_whens ws h.0
  able_act (perform body turns) h = able_turns turns h.0
  able_act _ h = tt

-- ---- statements

-- a statement that is found by its number, and can be done
record IsDoable (p : Program) (s : Stmt) : Type 0 where
  its : act_at p (listed_at s).number ≡ Some (listed_at s).act
  able : CanDoAct p.layout (listed_at s).act

module _ (p : Program) where
  abbrev AreDoable : List Stmt → Type 0
  AreDoable ss = AllByRecursion (IsDoable p) ss

  abbrev l : Layout
  l = p.layout

  two : (xs ys : List Stmt) → AreDoable xs → AreDoable ys → AreDoable (xs ++ ys)
  two xs ys = both (IsDoable p) xs ys

  mutual
    list_doable : (ss : Stmts) → AreWellFormed p ss → CanDo l ss → AreDoable (list_statements ss)
    list_doable no_stmts w h = tt
    list_doable (more_stmts (MkStmt n line a) ss) w h = (
      record { its = w.0; able = h.0 },
      two (inner_statements a) (list_statements ss) (act_doable a w.1 h.0) (list_doable ss w.2 h.1),
    )

    phrase_doable : (x : Phrase) → IsWellFormedPhrase p x → CanDoPhrase l x → AreDoable (phrase_statements x)
    phrase_doable left_out w h = tt
    phrase_doable (given ss) w h = list_doable ss w h

    act_doable : (a : Act) → IsWellFormedAct p a → CanDoAct l a → AreDoable (inner_statements a)
    act_doable (arith s targets remainder size fine) w h =
        two (phrase_statements size) (list_statements fine) (phrase_doable size w.0 h.1) (list_doable fine w.1 h.2)
    act_doable (if_ t held other) w h =
        two (list_statements held) (list_statements other) (list_doable held w.1 h.1) (list_doable other w.2 h.2)
    act_doable (evaluate ws other) w h =
        two (whens_statements ws) (list_statements other) (whens_doable ws w.0 h.0) (list_doable other w.1 h.1)
    act_doable (perform body turns) w h = body_doable body w.1 h.1
    act_doable (read f into end fine) w h =
        two (phrase_statements end) (list_statements fine) (phrase_doable end w.0 h.0) (list_doable fine w.1 h.1)
    act_doable _ w h = tt

    whens_doable : (ws : Whens) → AreWellFormedWhens p ws → CanDoWhens l ws → AreDoable (whens_statements ws)
    whens_doable no_whens w h = tt
    whens_doable (more_whens (MkWhen ts ss) ws) w h =
        two (list_statements ss) (whens_statements ws) (list_doable ss w.0 h.1) (whens_doable ws w.1 h.2)

    body_doable : (b : Body) → IsWellFormedBody p b → CanDoBody l b → AreDoable (body_statements b)
    body_doable (range first last) w h = tt
    body_doable (inline ss) w h = list_doable ss w h

  paras_doable : (xs : List Para) → AreWellFormedParas p xs → CanDoParas l xs → AreDoable (paras_statements xs)
  paras_doable [] w h = tt
  paras_doable (x ∷ xs) w h =
      two (para_statements x) (paras_statements xs) (list_doable x.body w.0 h.0) (paras_doable xs w.1 h.1)

  -- what is kept of a statement that can be done, as plain data
  record IsListed (x : Listed) : Type 0 where
    its : act_at p x.number ≡ Some x.act
    able : CanDoAct l x.act
    tests : x.tests ≡ tests_in_act x.act
    testable : AllByRecursion (CanTest l) (tests_in_act x.act)

  listed_of : (ss : List Stmt) → AreDoable ss → AllByRecursion IsListed (map listed_at ss)
  listed_of [] h = tt
  listed_of (MkStmt n line a ∷ ss) h =
      (record { its = h.0.its; able = h.0.able; tests = refl; testable = able_act l a h.0.able }, listed_of ss h.1)

  all_statements : (ss : List Statement) → AllByRecursion IsListed (plain_statements ss) → AllByRecursion (IsStatement p) ss
  all_statements [] h = tt
  all_statements (s ∷ ss) h =
      (record { its = h.0.its; able = h.0.able; tests = h.0.tests; testable = h.0.testable }, all_statements ss h.1)

  pub statements_are : (ss : List Statement) → IsWellFormed p → CanDoProgram p → plain_statements ss ≡ listed p →
      All (IsStatement p) ss
  statements_are ss w h is =
      All-from_recursion (IsStatement p) ss (all_statements ss
      (subst (AllByRecursion IsListed) (sym is) (listed_of (program_statements p) (paras_doable p.paras w h))))
