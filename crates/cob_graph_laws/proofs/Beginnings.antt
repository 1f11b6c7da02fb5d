-- What is to be done next stands at a node of its statement, at which a step begins.
use Rattle.std.proofs.Common.{◌≡◌, ℕ, ◌+◌, ◌≤◌, Bool, true, false, List, [], ◌∷◌, ◌++◌, length, Some, is_some, refl, sym, subst, arith}
use Rattle.cob_program.specs.declared.act.Opening.{Opening}
use Rattle.cob_program.specs.Logic.{Logic, all_of, any_of, not_, test, Logics, no_logics, more_logics}
use Rattle.cob_program.specs.Act.{Turns, once, times, until, varying, MkStmt, Stmts, no_stmts, more_stmts, Act, move, arith as arithmetic, if_, evaluate, perform, go, nothing, stop, open_files, close_files, read, write, show, Body, Program}
use Rattle.cob_runs.specs.State.{Doing, rest, paras, testing, augmenting}
use Rattle.cob_runs.specs.Steps.{number_of}
use Rattle.cob_graph.specs.Laid.{MkLaid, LaidList, no_laid, more_laid, LaidAct, moving, showing, skipping, going, ending, computing, deciding, choosing, performing, opening, closing, reading, writing, LaidBody, tests_in, one_if, list_size, phrase_size, act_size}
use Rattle.cob_graph.specs.Places.{first_of_list, first_of_all, first_of_any, first_of_body, body_at, tests_at, augment_at, body_next}
use Rattle.cob_graph.specs.Nodes as node
use Rattle.cob_graph.specs.Nodes.{Noded, Copied, logic_nodes, any_nodes, open_nodes, close_nodes, end_to, read_nodes, write_nodes, loop_before, loop_behind, list_nodes, phrase_nodes, body_nodes, act_nodes}
use Rattle.cob_graph.specs.Copies.{AreLaid, IsLaidAct, file_of}
use Rattle.cob_graph.specs.Graphs.{all_nodes}
use Rattle.cob_graph.specs.WellFormed.{Begins, FirstBegins, AreWellFormed, IsWellFormedAct}
use Rattle.cob_graph.specs.Lookup.{node_at}
use Rattle.cob_graph_laws.proofs.Fronts.{front, back}
use Rattle.cob_graph.proofs.Lengths.{length-logic}
use Rattle.cob_graph_laws.proofs.Relation.{Setting, HasTest, HasAugment, Stand, Here, ActAt, Stands}
use Rattle.cob_graph_laws.proofs.Settling.{IsReady}
use Rattle.cob_graph_laws.proofs.Loops.{before, after}

-- the first of these nodes is the statement's, and a step begins there
abbrev AreBegun : ℕ → List Noded → Type 0
AreBegun number [] = ⊥
AreBegun number (x ∷ xs) = (x.starts ≡ true) × (x.statement ≡ number)

begun_front : (number : ℕ) (xs ys : List Noded) → AreBegun number xs → AreBegun number (xs ++ ys)
begun_front number [] ys h = absurd h
begun_front number (x ∷ xs) ys h = h

module _ (c : Copied) (number : ℕ) where
  mutual
    logic_begins : (t : Logic) (k at tr fa : ℕ) → Begins t → AreBegun number (logic_nodes c number true t k at tr fa)
    logic_begins (all_of ls) k at tr fa h = all_begin ls k at tr fa h
    logic_begins (any_of ls) k at tr fa h = any_begin ls k at tr fa h
    logic_begins (not_ x) k at tr fa h = logic_begins x k at fa tr h
    logic_begins (test t) k at tr fa h = (refl, refl)

    all_begin : (ls : Logics) (k at tr fa : ℕ) → FirstBegins ls →
        AreBegun number (node.all_nodes c number true ls k at tr fa)
    all_begin no_logics k at tr fa h = absurd h
    all_begin (more_logics x xs) k at tr fa h =
        let m = first_of_all xs (at + tests_in x) tr fa in
        begun_front number (logic_nodes c number true x k at m fa)
        (node.all_nodes c number false xs (k + tests_in x) (at + tests_in x) tr fa) (logic_begins x k at m fa h)

    any_begin : (ls : Logics) (k at tr fa : ℕ) → FirstBegins ls →
        AreBegun number (any_nodes c number true ls k at tr fa)
    any_begin no_logics k at tr fa h = absurd h
    any_begin (more_logics x xs) k at tr fa h =
        let m = first_of_any xs (at + tests_in x) tr fa in
        begun_front number (logic_nodes c number true x k at tr m)
        (any_nodes c number false xs (k + tests_in x) (at + tests_in x) tr fa) (logic_begins x k at tr m h)

  opens_begin : (os : List Opening) (at next : ℕ) → 1 ≤ length os → AreBegun number
      (open_nodes c number true os 0 at next)
  opens_begin [] at next l = absurd (omega (arith, l))
  opens_begin (o ∷ os) at next l = (refl, refl)

  closes_begin : (fs : List ℕ) (at next : ℕ) → 1 ≤ length fs → AreBegun number
      (close_nodes c number true fs 0 at next)
  closes_begin [] at next l = absurd (omega (arith, l))
  closes_begin (f ∷ fs) at next l = (refl, refl)

  read_begins : (f : ℕ) (into : Bool) (at end fine next : ℕ) → AreBegun number
      (read_nodes c number f into at end fine next)
  read_begins f false at end fine next = (refl, refl)
  read_begins f true at end fine next = (refl, refl)

  write_begins : (f : ℕ) (from : Bool) (at next : ℕ) → AreBegun number (write_nodes c number f from at next)
  write_begins f false at next = (refl, refl)
  write_begins f true at next = (refl, refl)

  loop_begins : (turns : Turns) (x : LaidBody) (at next : ℕ) → AreBegun number (loop_before c number turns x at next)
  loop_begins once x at next = (refl, refl)
  loop_begins (times v) x at next = (refl, refl)
  loop_begins (until false t) x at next = (refl, refl)
  loop_begins (until true t) x at next = (refl, refl)
  loop_begins (varying false i from by t) x at next = (refl, refl)
  loop_begins (varying true i from by t) x at next = (refl, refl)

  module _ (p : Program) (lo hi at next : ℕ) where
    as_laid : (x z : LaidAct) → x ≡ z → AreBegun number (act_nodes c number z at next) → AreBegun number
        (act_nodes c number x at next)
    as_laid x z e = subst (λ (v : LaidAct). AreBegun number (act_nodes c number v at next)) (sym e)

    act_begins : (a : Act) (x : LaidAct) → IsWellFormedAct p a → IsLaidAct p lo hi a x → AreBegun number
        (act_nodes c number x at next)
    act_begins (move v places) x whole laid = as_laid x moving laid (refl, refl)
    act_begins (show xs) x whole laid = as_laid x showing laid (refl, refl)
    act_begins nothing x whole laid = as_laid x skipping laid (refl, refl)
    act_begins (go to) x whole laid = as_laid x (going to) laid.0 (refl, refl)
    act_begins stop x whole laid = as_laid x ending laid (refl, refl)
    act_begins (open_files os) x whole laid = as_laid x (opening os) laid (opens_begin os at next whole)
    act_begins (close_files fs) x whole laid = as_laid x (closing fs) laid (closes_begin fs at next whole)
    act_begins (write r from) x whole laid =
        as_laid x (writing (file_of p r) (is_some from)) laid (write_begins (file_of p r) (is_some from) at next)
    act_begins (arithmetic sum ts remainder size fine) (computing a b) whole laid = (refl, refl)
    act_begins (if_ t held other) (deciding u a b) whole laid =
        let tr = first_of_list a (at + tests_in u) next in
        let fa = first_of_list b (at + tests_in u + list_size a) next in
        let tests = logic_nodes c number true u 0 at tr fa in
        let held_nodes = list_nodes c a (at + tests_in u) next in
        begun_front number (tests ++ held_nodes) (list_nodes c b (at + tests_in u + list_size a) next)
        (begun_front number tests held_nodes (logic_begins u 0 at tr fa (subst Begins laid.0 whole.0)))
    act_begins (evaluate ws other) (choosing xs b) whole laid = (refl, refl)
    act_begins (perform body turns) (performing x t) whole laid =
        let first = loop_before c number t x at next in
        let own = body_nodes c number x (body_at t at) (body_next t at x next) in
        begun_front number (first ++ own) (loop_behind c number t x at next)
        (begun_front number first own (loop_begins t x at next))
    act_begins (read f into end fine) (reading g i a b) whole laid =
        let own = read_nodes c number g i at (end_to c number a g (at + 1 + one_if i) next)
        (first_of_list b (at + 1 + one_if i + phrase_size a) next) next in
        let end_list = phrase_nodes c a (at + 1 + one_if i) next in
        begun_front number (own ++ end_list) (list_nodes c b (at + 1 + one_if i + phrase_size a) next)
        (begun_front number own end_list (read_begins g i at (end_to c number a g (at + 1 + one_if i) next)
        (first_of_list b (at + 1 + one_if i + phrase_size a) next) next))
    act_begins (arithmetic sum ts remainder size fine) x whole laid = absurd laid
    act_begins (if_ t held other) x whole laid = absurd laid
    act_begins (evaluate ws other) x whole laid = absurd laid
    act_begins (perform body turns) x whole laid = absurd laid
    act_begins (read f into end fine) x whole laid = absurd laid

module _ (s : Setting) where
  -- a node of the statement, at which a step begins
  pub record StepsAt (number n : ℕ) : Type 0 where
    pub at : Noded
    pub stands : node_at (all_nodes s.p s.is.copies) n ≡ Some at
    pub begins : at.starts ≡ true
    pub its : at.statement ≡ number

  first_steps : (number n : ℕ) (ns : List Noded) → Stand s n ns → AreBegun number ns → StepsAt number n
  first_steps number n [] st h = absurd h
  first_steps number n (x ∷ xs) st h = record { at = x; stands = st.0; begins = h.0; its = h.1 }

  module _ (h : Here s) (number : ℕ) where
    rest_steps : (n line : ℕ) (a : Act) (ss : Stmts) (laid : LaidList) (at next : ℕ) →
        AreWellFormed s.p (more_stmts (MkStmt number line a) ss) →
        AreLaid s.p h.lo h.hi (more_stmts (MkStmt number line a) ss) laid →
        Stand s at (list_nodes h.c laid at next) → n ≡ first_of_list laid at next → StepsAt number n
    rest_steps n line a ss no_laid at next whole are ns e = absurd are
    rest_steps n line a ss (more_laid (MkLaid m x) xs) at next whole are ns e =
        let all = node_at (all_nodes s.p s.is.copies) in
        let behind_it = first_of_list xs (at + act_size x) next in
        let own = act_nodes h.c m x at behind_it in
        subst (λ (i : ℕ). StepsAt number i) (sym e)
        (first_steps number at own (front all at own (list_nodes h.c xs (at + act_size x) next) ns)
        (subst (λ (i : ℕ). AreBegun number (act_nodes h.c i x at behind_it)) are.0.0
        (act_begins h.c number s.p h.lo h.hi at behind_it a x whole.1 are.0.1)))

    tests_step : (t : Logic) (at tr fa : ℕ) → Begins t → Stand s at (logic_nodes h.c number true t 0 at tr fa) →
        StepsAt number at
    tests_step t at tr fa b st = first_steps number at (logic_nodes h.c number true t 0 at tr fa) st
        (logic_begins h.c number t 0 at tr fa b)

    test_steps : (body : Body) (turns : Turns) (x : LaidBody) (at next : ℕ) →
        ActAt s h number (perform body turns) (performing x turns) at next → HasTest turns →
        StepsAt number (tests_at turns at x)
    test_steps body once x at next y t = absurd t
    test_steps body (times v) x at next y t =
        record { at = _; stands = (before s h number body (times v) x at next y).1.0; begins = refl; its = refl }
    test_steps body (until false u) x at next y t =
        tests_step u (at + 1) next (first_of_body x (body_at (until false u) at) (at + 1)) y.whole.0
        (before s h number body (until false u) x at next y).1
    test_steps body (until true u) x at next y t =
        let turns = until true u in
        tests_step u (tests_at turns at x) next (first_of_body x (at + 1) (tests_at turns at x)) y.whole.0
        (after s h number body turns x at next y)
    test_steps body (varying false i from by u) x at next y t =
        let turns = varying false i from by u in
        tests_step u (at + 1) next (first_of_body x (at + 1 + tests_in u) (augment_at turns at x)) y.whole.0
        (before s h number body turns x at next y).1
    test_steps body (varying true i from by u) x at next y t =
        let turns = varying true i from by u in
        tests_step u (tests_at turns at x) next (augment_at turns at x) y.whole.0
        (front (node_at (all_nodes s.p s.is.copies)) (tests_at turns at x)
        (logic_nodes h.c number true u 0 (tests_at turns at x) next (augment_at turns at x)) _
        (after s h number body turns x at next y))

    augment_steps : (body : Body) (turns : Turns) (x : LaidBody) (at next : ℕ) →
        ActAt s h number (perform body turns) (performing x turns) at next → HasAugment turns →
        StepsAt number (augment_at turns at x)
    augment_steps body once x at next y t = absurd t
    augment_steps body (until a u) x at next y t = absurd t
    augment_steps body (times v) x at next y t =
        record { at = _; stands = (after s h number body (times v) x at next y).0; begins = refl; its = refl }
    augment_steps body (varying false i from by u) x at next y t = record {
      at = _;
      stands = (after s h number body (varying false i from by u) x at next y).0;
      begins = refl;
      its = refl;
    }
    augment_steps body (varying true i from by u) x at next y t =
        let turns = varying true i from by u in
        record {
          at = _;
          stands = (back (node_at (all_nodes s.p s.is.copies)) (tests_at turns at x) (tests_in u)
              (logic_nodes h.c number true u 0 (tests_at turns at x) next (augment_at turns at x)) _
              (length-logic h.c number true u 0 (tests_at turns at x) next (augment_at turns at x))
              (after s h number body turns x at next y)).0;
          begins = refl;
          its = refl;
        }

  pub ready_steps : (d : Doing) (ds : List Doing) (hs : List (Here s)) (n : ℕ) → Stands s (d ∷ ds) hs n →
      IsReady (d ∷ ds) → StepsAt (number_of d) n
  ready_steps d ds [] n st r = absurd st
  ready_steps (rest no_stmts) ds (h ∷ hs) n st r = absurd r
  ready_steps (rest (more_stmts (MkStmt number line a) ss)) ds (h ∷ hs) n st r =
      rest_steps h number n line a ss st.1.laid st.1.at st.0 st.1.whole st.1.are st.1.stand st.1.begins
  ready_steps (paras first q) ds (h ∷ hs) n st r = absurd r
  ready_steps (testing number body turns) ds (h ∷ hs) n st r =
      subst (λ (i : ℕ). StepsAt number i) (sym st.1.begins)
      (test_steps h number body turns st.1.laid st.1.at st.0 st.1.loop st.1.tests)
  ready_steps (augmenting number body turns) ds (h ∷ hs) n st r =
      subst (λ (i : ℕ). StepsAt number i) (sym st.1.begins)
      (augment_steps h number body turns st.1.laid st.1.at st.1.next st.1.loop st.1.augments)
