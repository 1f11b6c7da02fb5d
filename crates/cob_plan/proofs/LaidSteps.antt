-- Each node of a program with its copies written in leads to where a step begins, to the last node, or onward to a node of
-- its statement.
use Rattle.std.proofs.Common.{◌≡◌, ◌≤◌, ℕ, zero, suc, ◌+◌, ◌-◌, if◌then◌else◌, ◌⊎◌, inl, inr, Bool, true, false, List, [], ◌∷◌, ◌++◌, length, length-append, Option, Some, None, refl, sym, subst, ◌∙◌, arith}
use Rattle.std.specs.Prelude.{is_some}
use Rattle.std.proofs.lemmas.Bool.{false≢true}
use Rattle.std.proofs.lemmas.Option.{same_Some, none-some}
use Rattle.cob_program.specs.declared.act.Opening.{Opening}
use Rattle.cob_program.specs.Logic.{Test, numbers, texts, member, numeric, always, Logic, all_of, any_of, not_, test, Logics, no_logics, more_logics, logics_of}
use Rattle.cob_program.specs.Act.{Turns, once, times, until, varying, MkStmt, Stmts, no_stmts, more_stmts, Phrase, left_out, given, Act, move, arith as arithmetic, if_, evaluate, perform, go, nothing, stop, open_files, close_files, read, write, show, Whens, no_whens, more_whens, MkWhen, Body, range, inline, Program}
use Rattle.cob_runs.specs.declared.action.Action.{Action}
use Rattle.cob_runs.specs.declared.action.Action.TheVariants as action
use Rattle.cob_runs.specs.Acts.{has_status}
use Rattle.cob_runs.specs.Steps.{body_at as body_of_para}
use Rattle.cob_runs.specs.Effects.{act_at}
use Rattle.cob_graph.specs.Laid.{MkLaid, LaidList, no_laid, more_laid, LaidPhrase, no_phrase, a_phrase, LaidAct, moving, showing, skipping, going, ending, computing, deciding, choosing, performing, opening, closing, reading, writing, LaidWhens, no_laid_whens, more_laid_whens, LaidBody, own_list, copy, LaidParas, no_laid_paras, more_laid_paras, tests_in, tests_among, one_if, list_size, phrase_size, act_size, whens_size, body_size, paras_size}
use Rattle.cob_graph.specs.Places.{first_of_list, first_of_paras, first_of_para, first_of_body, first_of_logic, first_of_all, first_of_any, first_of_whens, body_at, augment_at, body_next}
use Rattle.cob_graph.specs.Nodes.{Noded, Copied, node, test_edges, logic_nodes, all_nodes, any_nodes, bad_to, behind, open_nodes, close_nodes, end_to, read_nodes, write_nodes, size_edges, loop_before, loop_behind, copied_in, list_nodes, phrase_nodes, whens_nodes, body_nodes, paras_nodes, act_nodes}
use Rattle.cob_graph.specs.Copies.{AreLaid, IsLaidPhrase, IsLaidAct, AreLaidWhens, IsLaidBody, AreLaidParas, file_of}
use Rattle.cob_graph.specs.Graphs.{final_of, main_copy, last_para, IsMainCopy}
use Rattle.cob_graph.specs.Lookup.{node_at}
use Rattle.cob_graph.specs.WellFormed.{Begins, FirstBegins, IsWellFormedTurns, AreWellFormed, IsWellFormedPhrase, IsWellFormedAct, AreWellFormedWhens, IsWellFormedBody, IsWellFormed}
use Rattle.cob_graph.proofs.Lengths.{length-logic, length-any, length-read, length-list, length-phrase, length-whens, length-body, length-act}
use Rattle.cob_graph_laws.proofs.Fronts.{Runs, front, back, moved, whole}
use Rattle.cob_plan.proofs.ParaLemmas.{para_whole}

-- ---- a step begins with the first of these nodes

abbrev AreBegun : List Noded → Type 0
AreBegun [] = ⊥
AreBegun (x ∷ xs) = x.starts ≡ true

begun_front : (xs ys : List Noded) → AreBegun xs → AreBegun (xs ++ ys)
begun_front [] ys h = absurd h
begun_front (x ∷ xs) ys h = h

module _ (c : Copied) (number : ℕ) where
  mutual
    logic_begun : (t : Logic) (k at tr fa : ℕ) → Begins t → AreBegun (logic_nodes c number true t k at tr fa)
    logic_begun (all_of ls) k at tr fa h = all_begun ls k at tr fa h
    logic_begun (any_of ls) k at tr fa h = any_begun ls k at tr fa h
    logic_begun (not_ x) k at tr fa h = logic_begun x k at fa tr h
    logic_begun (test t) k at tr fa h = refl

    all_begun : (ls : Logics) (k at tr fa : ℕ) → FirstBegins ls → AreBegun (all_nodes c number true ls k at tr fa)
    all_begun no_logics k at tr fa h = absurd h
    all_begun (more_logics x xs) k at tr fa h =
        let m = first_of_all xs (at + tests_in x) tr fa in
        begun_front (logic_nodes c number true x k at m fa)
        (all_nodes c number false xs (k + tests_in x) (at + tests_in x) tr fa) (logic_begun x k at m fa h)

    any_begun : (ls : Logics) (k at tr fa : ℕ) → FirstBegins ls → AreBegun (any_nodes c number true ls k at tr fa)
    any_begun no_logics k at tr fa h = absurd h
    any_begun (more_logics x xs) k at tr fa h =
        let m = first_of_any xs (at + tests_in x) tr fa in
        begun_front (logic_nodes c number true x k at tr m)
        (any_nodes c number false xs (k + tests_in x) (at + tests_in x) tr fa) (logic_begun x k at tr m h)

  opens_begun : (os : List Opening) (at next : ℕ) → 1 ≤ length os → AreBegun (open_nodes c number true os 0 at next)
  opens_begun [] at next l = absurd (omega (arith, l))
  opens_begun (o ∷ os) at next l = refl

  closes_begun : (fs : List ℕ) (at next : ℕ) → 1 ≤ length fs → AreBegun (close_nodes c number true fs 0 at next)
  closes_begun [] at next l = absurd (omega (arith, l))
  closes_begun (f ∷ fs) at next l = refl

  read_begun : (f : ℕ) (into : Bool) (at end_ fine next : ℕ) → AreBegun (read_nodes c number f into at end_ fine next)
  read_begun f false at end_ fine next = refl
  read_begun f true at end_ fine next = refl

  write_begun : (f : ℕ) (from : Bool) (at next : ℕ) → AreBegun (write_nodes c number f from at next)
  write_begun f false at next = refl
  write_begun f true at next = refl

  loop_begun : (turns : Turns) (x : LaidBody) (at next : ℕ) → AreBegun (loop_before c number turns x at next)
  loop_begun once x at next = refl
  loop_begun (times v) x at next = refl
  loop_begun (until false t) x at next = refl
  loop_begun (until true t) x at next = refl
  loop_begun (varying false i from by t) x at next = refl
  loop_begun (varying true i from by t) x at next = refl

  module _ (p : Program) (lo hi at next : ℕ) where
    begun_as_laid : (x z : LaidAct) → x ≡ z → AreBegun (act_nodes c number z at next) →
        AreBegun (act_nodes c number x at next)
    begun_as_laid x z e = subst (λ (v : LaidAct). AreBegun (act_nodes c number v at next)) (sym e)

    act_begun : (a : Act) (x : LaidAct) → IsWellFormedAct p a → IsLaidAct p lo hi a x →
        AreBegun (act_nodes c number x at next)
    act_begun (move v places) x w laid = begun_as_laid x moving laid refl
    act_begun (show xs) x w laid = begun_as_laid x showing laid refl
    act_begun nothing x w laid = begun_as_laid x skipping laid refl
    act_begun (go to) x w laid = begun_as_laid x (going to) laid.0 refl
    act_begun stop x w laid = begun_as_laid x ending laid refl
    act_begun (open_files os) x w laid = begun_as_laid x (opening os) laid (opens_begun os at next w)
    act_begun (close_files fs) x w laid = begun_as_laid x (closing fs) laid (closes_begun fs at next w)
    act_begun (write r from) x w laid =
        begun_as_laid x (writing (file_of p r) (is_some from)) laid (write_begun (file_of p r) (is_some from) at next)
    act_begun (arithmetic sum ts remainder size fine) (computing a b) w laid = refl
    act_begun (if_ t held other) (deciding u a b) w laid =
        let tr = first_of_list a (at + tests_in u) next in
        let fa = first_of_list b (at + tests_in u + list_size a) next in
        let tests = logic_nodes c number true u 0 at tr fa in
        let held_nodes = list_nodes c a (at + tests_in u) next in
        begun_front (tests ++ held_nodes) (list_nodes c b (at + tests_in u + list_size a) next)
        (begun_front tests held_nodes (logic_begun u 0 at tr fa (subst Begins laid.0 w.0)))
    act_begun (evaluate ws other) (choosing xs b) w laid = refl
    act_begun (perform body turns) (performing x t) w laid =
        let first = loop_before c number t x at next in
        let own = body_nodes c number x (body_at t at) (body_next t at x next) in
        begun_front (first ++ own) (loop_behind c number t x at next)
        (begun_front first own (loop_begun t x at next))
    act_begun (read f into end_ fine) (reading g i a b) w laid =
        let own = read_nodes c number g i at (end_to c number a g (at + 1 + one_if i) next)
        (first_of_list b (at + 1 + one_if i + phrase_size a) next) next in
        let end_list = phrase_nodes c a (at + 1 + one_if i) next in
        begun_front (own ++ end_list) (list_nodes c b (at + 1 + one_if i + phrase_size a) next)
        (begun_front own end_list (read_begun g i at (end_to c number a g (at + 1 + one_if i) next)
        (first_of_list b (at + 1 + one_if i + phrase_size a) next) next))
    act_begun (arithmetic sum ts remainder size fine) x w laid = absurd laid
    act_begun (if_ t held other) x w laid = absurd laid
    act_begun (evaluate ws other) x w laid = absurd laid
    act_begun (perform body turns) x w laid = absurd laid
    act_begun (read f into end_ fine) x w laid = absurd laid

-- ---- files that are opened

-- the place, in its statement's list, of the file that a node with these ways on opens
abbrev pub opened_by : Action → Option ℕ
opened_by (action.Open k) = Some k
opened_by _ = None

abbrev pub opened_at : List (Action × ℕ) → Option ℕ
opened_at [] = None
opened_at (x ∷ xs) = opened_by x.0

-- ---- where nodes lead

-- the nodes by their numbers, and the number behind them
module _ (p : Program) (get : ℕ → Option Noded) (final : ℕ) where
  -- No step goes on there.
  pub record Rests (n : ℕ) : Type 0 where
    pub is : (n ≡ final) ⊎ ((x : Noded) × (get n ≡ Some x) × (x.starts ≡ true))

  pub record IsOf (number n : ℕ) : Type 0 where
    pub node : Noded
    pub stands : get n ≡ Some node
    pub its : node.statement ≡ number

  -- No step goes on there, or it is a node of the statement, from a number on.
  pub record Goes (number from to : ℕ) : Type 0 where
    pub way : Rests to ⊎ ((from ≤ to) × IsOf number to)

  abbrev pub AllGo : ℕ → ℕ → List (Action × ℕ) → Type 0
  AllGo number from [] = Unit {0}
  AllGo number from (x ∷ xs) = Goes number from x.1 × AllGo number from xs

  -- No step goes on there, or it is the node that opens the file behind one of an OPEN.
  abbrev pub NextOpens : ℕ → ℕ → Type 0
  NextOpens k to = Rests to ⊎ ((x : Noded) × (get to ≡ Some x) × (opened_at x.out ≡ Some (k + 1)))

  abbrev pub AllOpen : ℕ → List (Action × ℕ) → Type 0
  AllOpen k [] = Unit {0}
  AllOpen k (x ∷ xs) = NextOpens k x.1 × AllOpen k xs

  -- a step begins with an OPEN's first file, and each leads to the next
  pub record OpensOn (x : Noded) : Type 0 where
    pub first : x.starts ≡ true → (k : ℕ) → opened_at x.out ≡ Some k → k ≡ 0
    pub next : (k : ℕ) → opened_at x.out ≡ Some k → AllOpen k x.out

  pub record IsLed (n : ℕ) (x : Noded) : Type 0 where
    pub goes : AllGo x.statement (n + 1) x.out
    pub opens : OpensOn x
    pub act : Act
    pub its : act_at p x.statement ≡ Some act

  abbrev pub EachLed : ℕ → List Noded → Type 0
  EachLed at [] = Unit {0}
  EachLed at (x ∷ xs) = IsLed at x × EachLed (at + 1) xs

  pub record AreLed (at : ℕ) (ns : List Noded) : Type 0 where
    pub each : EachLed at ns

  none_led : (at : ℕ) → AreLed at []
  none_led at = record { each = tt }

  more_led : (at : ℕ) (x : Noded) (xs : List Noded) → IsLed at x → AreLed (at + 1) xs → AreLed at (x ∷ xs)
  more_led at x xs l h = record { each = (l, h.each) }

  one_led : (at : ℕ) (x : Noded) → IsLed at x → AreLed at (x ∷ [])
  one_led at x l = more_led at x [] l (none_led (at + 1))

  append_led : (at from : ℕ) (xs ys : List Noded) → at + length xs ≡ from → AreLed at xs → AreLed from ys →
      AreLed at (xs ++ ys)
  append_led at from [] ys e f g = subst (λ (i : ℕ). AreLed i ys) (omega (arith, e)) g
  append_led at from (x ∷ xs) ys e f g =
      more_led at x (xs ++ ys) f.each.0
      (append_led (at + 1) from xs ys (omega (arith, e)) (record { each = f.each.1 }) g)

  -- these nodes stand from a number on
  pub record Stands (at : ℕ) (ns : List Noded) : Type 0 where
    pub each : Runs get at ns

  in_front : (at : ℕ) (xs ys : List Noded) → Stands at (xs ++ ys) → Stands at xs
  in_front at xs ys s = record { each = front get at xs ys s.each }

  at_back : (at from : ℕ) (xs ys : List Noded) → at + length xs ≡ from → Stands at (xs ++ ys) → Stands from ys
  at_back at from xs ys e s =
      record { each = moved get (at + length xs) from ys e (back get at (length xs) xs ys refl s.each) }

  rest_of : (at : ℕ) (x : Noded) (xs : List Noded) → Stands at (x ∷ xs) → Stands (at + 1) xs
  rest_of at x xs s = record { each = s.each.1 }

  -- ---- places

  begins : (at : ℕ) (ns : List Noded) → Stands at ns → AreBegun ns → Rests at
  begins at [] s h = absurd h
  begins at (x ∷ xs) s h = record { is = inr (x, s.each.0, h) }

  goes_to_rest : (number from to : ℕ) → Rests to → Goes number from to
  goes_to_rest number from to r = record { way = inl r }

  sooner : (number from since to : ℕ) → since ≤ from → Goes number from to → Goes number since to
  sooner number from since to l g = record {
    way = elim g.way [ inl r ↦ inl r | inr o ↦ inr (omega (arith, l, o.0), o.1) ];
  }

  module _ (c : Copied) (number : ℕ) (a : Act) (its : act_at p number ≡ Some a) where
    -- a node that opens no file
    own : (at : ℕ) (b : Bool) (out : List (Action × ℕ)) → AllGo number (at + 1) out → opened_at out ≡ None →
        IsLed at (node c number b out)
    own at b out g none = record {
      goes = g;
      act = a;
      its = its;
      opens = record {
        first = λ s k e. absurd (none-some k (sym none ∙ e));
        next = λ k e. absurd (none-some k (sym none ∙ e));
      };
    }

    -- one that opens a file
    own_open : (at : ℕ) (b : Bool) (k : ℕ) (out : List (Action × ℕ)) → AllGo number (at + 1) out → (b ≡ true → k ≡ 0) →
        opened_at out ≡ Some k → AllOpen k out → IsLed at (node c number b out)
    own_open at b k out g first is on = record {
      goes = g;
      act = a;
      its = its;
      opens = record {
        first = λ s j e. subst (λ (i : ℕ). i ≡ 0) (same_Some k j (sym is ∙ e)) (first s);
        next = λ j e. subst (λ (i : ℕ). AllOpen i out) (same_Some k j (sym is ∙ e)) on;
      };
    }

    here : (at from : ℕ) (b : Bool) (out : List (Action × ℕ)) (xs : List Noded) → from ≤ at →
        Stands at (node c number b out ∷ xs) → Goes number from at
    here at from b out xs l s = record { way = inr (l, record { node = node c number b out; stands = s.each.0; its = refl }) }

    test_led : (at : ℕ) (b : Bool) (t : Test) (k tr fa : ℕ) → Goes number (at + 1) tr → Goes number (at + 1) fa →
        IsLed at (node c number b (test_edges c number t k tr fa))
    test_led at b (numbers x r y) k tr fa t u = own at b _ (t, (u, tt)) refl
    test_led at b (texts x r y) k tr fa t u = own at b _ (t, (u, tt)) refl
    test_led at b (member place ps) k tr fa t u = own at b _ (t, (u, tt)) refl
    test_led at b (numeric place) k tr fa t u = own at b _ (t, (u, tt)) refl
    test_led at b always k tr fa t u = own at b _ (t, tt) refl

    -- the first node of a condition
    mutual
      logic_goes : (b : Bool) (t : Logic) (k at tr fa from : ℕ) → from ≤ at →
          Stands at (logic_nodes c number b t k at tr fa) → Goes number from tr → Goes number from fa →
          Goes number from (first_of_logic t at tr fa)
      logic_goes b (all_of ls) k at tr fa from l s t u = all_goes b ls k at tr fa from l s t u
      logic_goes b (any_of ls) k at tr fa from l s t u = any_goes b ls k at tr fa from l s t u
      logic_goes b (not_ x) k at tr fa from l s t u = logic_goes b x k at fa tr from l s u t
      logic_goes b (test x) k at tr fa from l s t u = here at from b (test_edges c number x k tr fa) [] l s

      all_goes : (b : Bool) (ls : Logics) (k at tr fa from : ℕ) → from ≤ at →
          Stands at (all_nodes c number b ls k at tr fa) → Goes number from tr → Goes number from fa →
          Goes number from (first_of_all ls at tr fa)
      all_goes b no_logics k at tr fa from l s t u = t
      all_goes b (more_logics x xs) k at tr fa from l s t u =
          let m = first_of_all xs (at + tests_in x) tr fa in
          let ns = logic_nodes c number b x k at m fa in
          let ms = all_nodes c number false xs (k + tests_in x) (at + tests_in x) tr fa in
          logic_goes b x k at m fa from l (in_front at ns ms s)
          (all_goes false xs (k + tests_in x) (at + tests_in x) tr fa from (omega (arith, l))
          (at_back at (at + tests_in x) ns ms (omega (arith, length-logic c number b x k at m fa)) s) t u) u

      any_goes : (b : Bool) (ls : Logics) (k at tr fa from : ℕ) → from ≤ at →
          Stands at (any_nodes c number b ls k at tr fa) → Goes number from tr → Goes number from fa →
          Goes number from (first_of_any ls at tr fa)
      any_goes b no_logics k at tr fa from l s t u = u
      any_goes b (more_logics x xs) k at tr fa from l s t u =
          let m = first_of_any xs (at + tests_in x) tr fa in
          let ns = logic_nodes c number b x k at tr m in
          let ms = any_nodes c number false xs (k + tests_in x) (at + tests_in x) tr fa in
          logic_goes b x k at tr m from l (in_front at ns ms s) t
          (any_goes false xs (k + tests_in x) (at + tests_in x) tr fa from (omega (arith, l))
          (at_back at (at + tests_in x) ns ms (omega (arith, length-logic c number b x k at tr m)) s) t u)

    -- its nodes, behind which others begin at a number
    mutual
      logic_led : (b : Bool) (t : Logic) (k at tr fa later : ℕ) → at + tests_in t ≤ later →
          Stands at (logic_nodes c number b t k at tr fa) → Goes number later tr → Goes number later fa →
          AreLed at (logic_nodes c number b t k at tr fa)
      logic_led b (all_of ls) k at tr fa later l s t u = all_led b ls k at tr fa later l s t u
      logic_led b (any_of ls) k at tr fa later l s t u = any_led b ls k at tr fa later l s t u
      logic_led b (not_ x) k at tr fa later l s t u = logic_led b x k at fa tr later l s u t
      logic_led b (test x) k at tr fa later l s t u =
          one_led at _ (test_led at b x k tr fa (sooner number later (at + 1) tr l t) (sooner number later (at + 1) fa l u))

      all_led : (b : Bool) (ls : Logics) (k at tr fa later : ℕ) → at + tests_among ls ≤ later →
          Stands at (all_nodes c number b ls k at tr fa) → Goes number later tr → Goes number later fa →
          AreLed at (all_nodes c number b ls k at tr fa)
      all_led b no_logics k at tr fa later l s t u = none_led at
      all_led b (more_logics x xs) k at tr fa later l s t u =
          let mid = at + tests_in x in
          let m = first_of_all xs mid tr fa in
          let ns = logic_nodes c number b x k at m fa in
          let ms = all_nodes c number false xs (k + tests_in x) mid tr fa in
          let size : at + length ns ≡ mid = omega (arith, length-logic c number b x k at m fa) in
          let within : mid ≤ later = omega (arith, l) in
          let rest : Stands mid ms = at_back at mid ns ms size s in
          append_led at mid ns ms size
          (logic_led b x k at m fa mid (omega arith) (in_front at ns ms s)
          (all_goes false xs (k + tests_in x) mid tr fa mid (omega arith) rest (sooner number later mid tr within t)
          (sooner number later mid fa within u)) (sooner number later mid fa within u))
          (all_led false xs (k + tests_in x) mid tr fa later (omega (arith, l)) rest t u)

      any_led : (b : Bool) (ls : Logics) (k at tr fa later : ℕ) → at + tests_among ls ≤ later →
          Stands at (any_nodes c number b ls k at tr fa) → Goes number later tr → Goes number later fa →
          AreLed at (any_nodes c number b ls k at tr fa)
      any_led b no_logics k at tr fa later l s t u = none_led at
      any_led b (more_logics x xs) k at tr fa later l s t u =
          let mid = at + tests_in x in
          let m = first_of_any xs mid tr fa in
          let ns = logic_nodes c number b x k at tr m in
          let ms = any_nodes c number false xs (k + tests_in x) mid tr fa in
          let size : at + length ns ≡ mid = omega (arith, length-logic c number b x k at tr m) in
          let within : mid ≤ later = omega (arith, l) in
          let rest : Stands mid ms = at_back at mid ns ms size s in
          append_led at mid ns ms size
          (logic_led b x k at tr m mid (omega arith) (in_front at ns ms s) (sooner number later mid tr within t)
          (any_goes false xs (k + tests_in x) mid tr fa mid (omega arith) rest (sooner number later mid tr within t)
          (sooner number later mid fa within u)))
          (any_led false xs (k + tests_in x) mid tr fa later (omega (arith, l)) rest t u)

    -- a condition whose ways lead to where no step goes on
    tests_led : (b : Bool) (t : Logic) (k at tr fa : ℕ) → Stands at (logic_nodes c number b t k at tr fa) → Rests tr →
        Rests fa → AreLed at (logic_nodes c number b t k at tr fa)
    tests_led b t k at tr fa s r q =
        logic_led b t k at tr fa (at + tests_in t) (omega arith) s (goes_to_rest number _ tr r) (goes_to_rest number _ fa q)

    -- ---- calls on files

    module _ (last : Rests c.final) where
      bad_goes : (file from next : ℕ) → Goes number from next → Goes number from (bad_to c number file next)
      bad_goes file from next g = by_status (has_status c.layout file)
        where
          by_status : (b : Bool) → Goes number from (if b then next else c.final)
          by_status true = g
          by_status false = goes_to_rest number from c.final last

      open_goes : (os : List Opening) (k at next : ℕ) → Stands (at + 1) (open_nodes c number false os k (at + 1) next) →
          Rests next → Goes number (at + 1) (behind c number os at next)
      open_goes [] k at next s r = goes_to_rest number (at + 1) next r
      open_goes (o ∷ os) k at next s r = here (at + 1) (at + 1) false _ _ (omega arith) s

      open_next : (os : List Opening) (k at next : ℕ) →
          Stands (at + 1) (open_nodes c number false os (k + 1) (at + 1) next) → Rests next →
          NextOpens k (behind c number os at next)
      open_next [] k at next s r = inl r
      open_next (o ∷ os) k at next s r = inr (_, s.each.0, refl)

      bad_opens : (file k next : ℕ) → NextOpens k next → NextOpens k (bad_to c number file next)
      bad_opens file k next g = by_status (has_status c.layout file)
        where
          by_status : (b : Bool) → NextOpens k (if b then next else c.final)
          by_status true = g
          by_status false = inl last

      open_led : (b : Bool) (os : List Opening) (k at next : ℕ) → Stands at (open_nodes c number b os k at next) →
          Rests next → (b ≡ true → k ≡ 0) → AreLed at (open_nodes c number b os k at next)
      open_led b [] k at next s r first = none_led at
      open_led b (o ∷ os) k at next s r first =
          let later = rest_of at _ _ s in
          let g = open_goes os (k + 1) at next later r in
          let h = open_next os k at next later r in
          more_led at _ _
          (own_open at b k _ (g, (bad_goes o.file (at + 1) _ g, tt)) first refl (h, (bad_opens o.file k _ h, tt)))
          (open_led false os (k + 1) (at + 1) next later r (λ e. absurd (false≢true e)))

      close_goes : (fs : List ℕ) (k at next : ℕ) → Stands (at + 1) (close_nodes c number false fs k (at + 1) next) →
          Rests next → Goes number (at + 1) (behind c number fs at next)
      close_goes [] k at next s r = goes_to_rest number (at + 1) next r
      close_goes (f ∷ fs) k at next s r = here (at + 1) (at + 1) false _ _ (omega arith) s

      close_led : (b : Bool) (fs : List ℕ) (k at next : ℕ) → Stands at (close_nodes c number b fs k at next) →
          Rests next → AreLed at (close_nodes c number b fs k at next)
      close_led b [] k at next s r = none_led at
      close_led b (f ∷ fs) k at next s r =
          let later = rest_of at _ _ s in
          let g = close_goes fs (k + 1) at next later r in
          more_led at _ _ (own at b _ (g, (bad_goes f (at + 1) _ g, tt)) refl) (close_led false fs (k + 1) (at + 1) next later r)

      read_led : (file : ℕ) (into : Bool) (at end_ fine next : ℕ) →
          Stands at (read_nodes c number file into at end_ fine next) → Rests end_ → Rests fine → Rests next →
          AreLed at (read_nodes c number file into at end_ fine next)
      read_led file false at end_ fine next s e i n =
          one_led at _ (own at true _ (
            goes_to_rest number (at + 1) fine i,
            (
              goes_to_rest number (at + 1) end_ e,
              (bad_goes file (at + 1) next (goes_to_rest number (at + 1) next n), tt),
            ),
          ) refl)
      read_led file true at end_ fine next s e i n =
          more_led at _ _ (own at true _ (
            here (at + 1) (at + 1) false _ _ (omega arith) (rest_of at _ _ s),
            (
              goes_to_rest number (at + 1) end_ e,
              (bad_goes file (at + 1) next (goes_to_rest number (at + 1) next n), tt),
            ),
          ) refl)
          (one_led (at + 1) _ (own (at + 1) false _ (goes_to_rest number (at + 1 + 1) fine i, tt) refl))

      write_led : (file : ℕ) (from : Bool) (at next : ℕ) → Stands at (write_nodes c number file from at next) → Rests next →
          AreLed at (write_nodes c number file from at next)
      write_led file false at next s n =
          let g = goes_to_rest number (at + 1) next n in
          one_led at _ (own at true _ (g, (bad_goes file (at + 1) next g, tt)) refl)
      write_led file true at next s n =
          let g = goes_to_rest number (at + 1 + 1) next n in
          more_led at _ _ (own at true _ (here (at + 1) (at + 1) false _ _ (omega arith) (rest_of at _ _ s), tt) refl)
          (one_led (at + 1) _ (own (at + 1) false _ (g, (bad_goes file (at + 1 + 1) next g, tt)) refl))

    -- ---- loops

    tests_rest : (t : Logic) (k at tr fa : ℕ) → Begins t → Stands at (logic_nodes c number true t k at tr fa) → Rests at
    tests_rest t k at tr fa w s = begins at _ s (logic_begun c number t k at tr fa w)

    -- where its parts stand
    abbrev Before : Turns → LaidBody → ℕ → ℕ → Type 0
    Before turns x at next = Stands at (loop_before c number turns x at next)

    abbrev Behind : Turns → LaidBody → ℕ → ℕ → Type 0
    Behind turns x at next = Stands (body_at turns at + body_size x) (loop_behind c number turns x at next)

    next_rests : (turns : Turns) (x : LaidBody) (at next : ℕ) → IsWellFormedTurns turns → Before turns x at next →
        Behind turns x at next → Rests next → Rests (body_next turns at x next)
    next_rests once x at next w s q n = n
    next_rests (times v) x at next w s q n = begins _ _ q refl
    next_rests (until false t) x at next w s q n = tests_rest t 0 (at + 1) _ _ w (rest_of at _ _ s)
    next_rests (until true t) x at next w s q n = tests_rest t 0 _ _ _ w q
    next_rests (varying false i from by t) x at next w s q n = begins _ _ q refl
    next_rests (varying true i from by t) x at next w s q n = tests_rest t 0 _ _ _ w (in_front _ _ _ q)

    before_led : (turns : Turns) (x : LaidBody) (at next : ℕ) → IsWellFormedTurns turns → Before turns x at next →
        Rests (first_of_body x (body_at turns at) (body_next turns at x next)) → Rests next →
        AreLed at (loop_before c number turns x at next)
    before_led once x at next w s f n = one_led at _ (own at true _ (goes_to_rest number (at + 1) _ f, tt) refl)
    before_led (times v) x at next w s f n =
        let second = begins (at + 1) _ (rest_of at _ _ s) refl in
        more_led at _ _ (own at true _ (goes_to_rest number (at + 1) _ second, tt) refl)
        (one_led (at + 1) _ (own (at + 1) true _
        (goes_to_rest number (at + 1 + 1) _ f, (goes_to_rest number (at + 1 + 1) next n, tt)) refl))
    before_led (until false t) x at next w s f n =
        let tests = rest_of at _ _ s in
        more_led at _ _ (own at true _ (goes_to_rest number (at + 1) _ (tests_rest t 0 (at + 1) _ _ w tests), tt) refl)
        (tests_led true t 0 (at + 1) next _ tests n f)
    before_led (until true t) x at next w s f n = one_led at _ (own at true _ (goes_to_rest number (at + 1) _ f, tt) refl)
    before_led (varying false i from by t) x at next w s f n =
        let tests = rest_of at _ _ s in
        more_led at _ _ (own at true _ (goes_to_rest number (at + 1) _ (tests_rest t 0 (at + 1) _ _ w tests), tt) refl)
        (tests_led true t 0 (at + 1) next _ tests n f)
    before_led (varying true i from by t) x at next w s f n =
        one_led at _ (own at true _ (goes_to_rest number (at + 1) _ f, tt) refl)

    behind_led : (turns : Turns) (x : LaidBody) (at next : ℕ) → IsWellFormedTurns turns → Before turns x at next →
        Behind turns x at next → Rests (first_of_body x (body_at turns at) (body_next turns at x next)) → Rests next →
        AreLed (body_at turns at + body_size x) (loop_behind c number turns x at next)
    behind_led once x at next w s q f n = none_led _
    behind_led (times v) x at next w s q f n =
        one_led _ _ (own _ true _ (goes_to_rest number _ (at + 1) (begins (at + 1) _ (rest_of at _ _ s) refl), tt) refl)
    behind_led (until false t) x at next w s q f n = none_led _
    behind_led (until true t) x at next w s q f n = tests_led true t 0 _ next _ q n f
    behind_led (varying false i from by t) x at next w s q f n =
        one_led _ _ (own _ true _
        (goes_to_rest number _ (at + 1) (tests_rest t 0 (at + 1) _ _ w (rest_of at _ _ s)), tt) refl)
    behind_led (varying true i from by t) x at next w s q f n =
        let tests = at + 1 + body_size x in
        let augment = augment_at (varying true i from by t) at x in
        let ns = logic_nodes c number true t 0 tests next augment in
        let size : tests + length ns ≡ augment = omega (arith, length-logic c number true t 0 tests next augment) in
        append_led tests augment ns _ size
        (tests_led true t 0 tests next augment (in_front tests ns _ q) n
        (begins augment _ (at_back tests augment ns _ size q) refl))
        (one_led augment _ (own augment true _ (goes_to_rest number (augment + 1) _ f, tt) refl))

  -- ---- three lists, one behind the other

  module _ (at mid last : ℕ) (xs ys zs : List Noded) (first : at + length xs ≡ mid) (second : mid + length ys ≡ last) where
    both : at + length (xs ++ ys) ≡ last
    both = omega (arith, length-append xs ys, first, second)

    three : Stands at (xs ++ ys ++ zs) → Stands at xs × Stands mid ys × Stands last zs
    three s = (
      in_front at xs ys (in_front at (xs ++ ys) zs s),
      at_back at mid xs ys first (in_front at (xs ++ ys) zs s),
      at_back at last (xs ++ ys) zs both s,
    )

    three_led : AreLed at xs → AreLed mid ys → AreLed last zs → AreLed at (xs ++ ys ++ zs)
    three_led f g h = append_led at last (xs ++ ys) zs both (append_led at mid xs ys first f g) h

  length-before : (c : Copied) (n : ℕ) (turns : Turns) (x : LaidBody) (at next : ℕ) →
      at + length (loop_before c n turns x at next) ≡ body_at turns at
  length-before c n once x at next = omega arith
  length-before c n (times v) x at next = omega arith
  length-before c n (until false t) x at next =
      omega (arith, length-logic c n true t 0 (at + 1) next (first_of_body x (body_at (until false t) at) (at + 1)))
  length-before c n (until true t) x at next = omega arith
  length-before c n (varying false i from by t) x at next =
      omega (
        arith,
        length-logic c n true t 0 (at + 1) next
            (first_of_body x (at + 1 + tests_in t) (augment_at (varying false i from by t) at x)),
      )
  length-before c n (varying true i from by t) x at next = omega arith

  -- ---- first nodes

  -- of the paragraphs of a copy, and behind them
  pub record CopyRests (c : Copied) : Type 0 where
    pub para : (n : ℕ) → Rests (c.para n)
    pub last : Rests c.final

  module _ (kept : IsWellFormed p) where
    list_rests : (c : Copied) (lo hi : ℕ) (ss : Stmts) (xs : LaidList) (at next : ℕ) → AreLaid p lo hi ss xs →
        AreWellFormed p ss → Stands at (list_nodes c xs at next) → Rests next → Rests (first_of_list xs at next)
    list_rests c lo hi no_stmts no_laid at next l w s n = n
    list_rests c lo hi (more_stmts (MkStmt i line a) ss) (more_laid (MkLaid m x) xs) at next l w s n =
        let later = first_of_list xs (at + act_size x) next in
        begins at (act_nodes c m x at later)
        (in_front at (act_nodes c m x at later) (list_nodes c xs (at + act_size x) next) s)
        (act_begun c m p lo hi at later a x w.1 l.0.1)
    list_rests c lo hi no_stmts (more_laid x xs) at next l w s n = absurd l
    list_rests c lo hi (more_stmts y ss) no_laid at next l w s n = absurd l

    -- what stands behind a paragraph
    module _ (c : Copied) (xs : LaidList) (ps : LaidParas) (at next : ℕ) where
      abbrev para_front : List Noded
      para_front = list_nodes c xs at (first_of_paras ps (at + list_size xs) next)

      abbrev para_behind : List Noded
      para_behind = paras_nodes c ps (at + list_size xs) next

      para_size : at + length para_front ≡ at + list_size xs
      para_size = omega (arith, length-list c xs at (first_of_paras ps (at + list_size xs) next))

      others : Stands at (para_front ++ para_behind) → Stands (at + list_size xs) para_behind
      others s = at_back at (at + list_size xs) para_front para_behind para_size s

    paras_rests : (c : Copied) (lo hi from many : ℕ) (ps : LaidParas) (at next : ℕ) → AreLaidParas p lo hi from many ps →
        Stands at (paras_nodes c ps at next) → Rests next → Rests (first_of_paras ps at next)
    paras_rests c lo hi from zero no_laid_paras at next l s n = n
    paras_rests c lo hi from (suc m) (more_laid_paras xs ps) at next l s n =
        list_rests c lo hi (body_of_para p from) xs at (first_of_paras ps (at + list_size xs) next) l.0
        (para_whole p p.paras from kept) (in_front at (para_front c xs ps at next) (para_behind c xs ps at next) s)
        (paras_rests c lo hi (suc from) m ps (at + list_size xs) next l.1 (others c xs ps at next s) n)
    paras_rests c lo hi from zero (more_laid_paras xs ps) at next l s n = absurd l
    paras_rests c lo hi from (suc m) no_laid_paras at next l s n = absurd l

    para_rests : (c : Copied) (lo hi from many k : ℕ) (ps : LaidParas) (at next : ℕ) → AreLaidParas p lo hi from many ps →
        Stands at (paras_nodes c ps at next) → Rests next → Rests (first_of_para k ps at next)
    para_rests c lo hi from many zero ps at next l s n = paras_rests c lo hi from many ps at next l s n
    para_rests c lo hi from zero (suc k) no_laid_paras at next l s n = n
    para_rests c lo hi from (suc m) (suc k) (more_laid_paras xs ps) at next l s n =
        para_rests c lo hi (suc from) m k ps (at + list_size xs) next l.1 (others c xs ps at next s) n
    para_rests c lo hi from zero (suc k) (more_laid_paras xs ps) at next l s n = absurd l
    para_rests c lo hi from (suc m) (suc k) no_laid_paras at next l s n = absurd l

    -- a step begins where all of them do, if any does
    paras_begin : (c : Copied) (lo hi from many : ℕ) (ps : LaidParas) (at next : ℕ) → AreLaidParas p lo hi from many ps →
        Stands at (paras_nodes c ps at next) → next ≡ at + paras_size ps → Rests next → Rests at
    paras_begin c lo hi from zero no_laid_paras at next l s e n = subst Rests (omega (arith, e)) n
    paras_begin c lo hi from (suc m) (more_laid_paras no_laid ps) at next l s e n =
        subst Rests (omega arith)
        (paras_begin c lo hi (suc from) m ps (at + 0) next l.1 (others c no_laid ps at next s) (omega (arith, e)) n)
    paras_begin c lo hi from (suc m) (more_laid_paras (more_laid x xs) ps) at next l s e n =
        paras_rests c lo hi from (suc m) (more_laid_paras (more_laid x xs) ps) at next l s n
    paras_begin c lo hi from zero (more_laid_paras xs ps) at next l s e n = absurd l
    paras_begin c lo hi from (suc m) no_laid_paras at next l s e n = absurd l

    body_rests : (c : Copied) (lo hi number : ℕ) (b : Body) (x : LaidBody) (at next : ℕ) → IsLaidBody p lo hi b x →
        IsWellFormedBody p b → Stands at (body_nodes c number x at next) → Rests next → Rests (first_of_body x at next)
    body_rests c lo hi number (inline ss) (own_list xs) at next l w s n = list_rests c lo hi ss xs at next l w s n
    body_rests c lo hi number (range first last) (copy i ps) at next l w s n =
        paras_rests (copied_in c number i ps at next) first last first (suc last - first) ps at next l.1 s n
    body_rests c lo hi number (inline ss) (copy i ps) at next l w s n = absurd l
    body_rests c lo hi number (range first last) (own_list xs) at next l w s n = absurd l

    bad_rests : (c : Copied) (number file next : ℕ) → CopyRests c → Rests next → Rests (bad_to c number file next)
    bad_rests c number file next k n = by_status (has_status c.layout file)
      where
        by_status : (b : Bool) → Rests (if b then next else c.final)
        by_status true = n
        by_status false = k.last

    end_rests : (c : Copied) (lo hi number : ℕ) (x : Phrase) (u : LaidPhrase) (file at next : ℕ) → IsLaidPhrase p lo hi x u →
        IsWellFormedPhrase p x → CopyRests c → Stands at (phrase_nodes c u at next) → Rests next →
        Rests (end_to c number u file at next)
    end_rests c lo hi number left_out no_phrase file at next l w k s n = bad_rests c number file next k n
    end_rests c lo hi number (given ss) (a_phrase xs) file at next l w k s n = list_rests c lo hi ss xs at next l w s n
    end_rests c lo hi number left_out (a_phrase xs) file at next l w k s n = absurd l
    end_rests c lo hi number (given ss) no_phrase file at next l w k s n = absurd l

    size_goes : (c : Copied) (lo hi number : ℕ) (x : Phrase) (u : LaidPhrase) (at next from : ℕ) →
        IsLaidPhrase p lo hi x u → IsWellFormedPhrase p x → Stands at (phrase_nodes c u at next) → Rests next →
        AllGo number from (size_edges c number u at next)
    size_goes c lo hi number left_out no_phrase at next from l w s n = tt
    size_goes c lo hi number (given ss) (a_phrase xs) at next from l w s n =
        (goes_to_rest number from (first_of_list xs at next) (list_rests c lo hi ss xs at next l w s n), tt)
    size_goes c lo hi number left_out (a_phrase xs) at next from l w s n = absurd l
    size_goes c lo hi number (given ss) no_phrase at next from l w s n = absurd l

    -- a WHEN's tests, its list, and the WHENs behind it
    module _ (c : Copied) (number : ℕ) (us : List Logic) (xs : LaidList) (vs : LaidWhens) (k at other next : ℕ) where
      abbrev list_at : ℕ
      list_at = at + tests_among (logics_of us)

      abbrev whens_at : ℕ
      whens_at = list_at + list_size xs

      abbrev to_list : ℕ
      to_list = first_of_list xs list_at next

      abbrev to_whens : ℕ
      to_whens = first_of_whens vs whens_at other next

      abbrev its_tests : List Noded
      its_tests = any_nodes c number false (logics_of us) k at to_list to_whens

      abbrev its_list : List Noded
      its_list = list_nodes c xs list_at next

      abbrev its_whens : List Noded
      its_whens = whens_nodes c number vs (k + tests_among (logics_of us)) whens_at other next

      tests_size : at + length its_tests ≡ list_at
      tests_size = omega (arith, length-any c number false (logics_of us) k at to_list to_whens)

      list_size_ : list_at + length its_list ≡ whens_at
      list_size_ = omega (arith, length-list c xs list_at next)

      when_parts : Stands at (its_tests ++ its_list ++ its_whens) →
          Stands at its_tests × Stands list_at its_list × Stands whens_at its_whens
      when_parts s = three at list_at whens_at its_tests its_list its_whens tests_size list_size_ s

      when_led : AreLed at its_tests → AreLed list_at its_list → AreLed whens_at its_whens →
          AreLed at (its_tests ++ its_list ++ its_whens)
      when_led f g h = three_led at list_at whens_at its_tests its_list its_whens tests_size list_size_ f g h

    whens_go : (c : Copied) (lo hi number : ℕ) (a : Act) → act_at p number ≡ Some a → (ws : Whens) (xs : LaidWhens)
        (k at other next from : ℕ) → from ≤ at → AreLaidWhens p lo hi ws xs → AreWellFormedWhens p ws →
        Stands at (whens_nodes c number xs k at other next) → Rests other → Rests next →
        Goes number from (first_of_whens xs at other next)
    whens_go c lo hi number a its no_whens no_laid_whens k at other next from b l w s o n = goes_to_rest number from other o
    whens_go c lo hi number a its (more_whens (MkWhen ts ss) ws) (more_laid_whens us xs vs) k at other next from b l w s o n =
        let parts = when_parts c number us xs vs k at other next s in
        let first = at + tests_among (logics_of us) in
        any_goes c number a its false (logics_of us) k at _ _ from b parts.0
        (goes_to_rest number from _ (list_rests c lo hi ss xs first next l.1 w.0 parts.1 n))
        (whens_go c lo hi number a its ws vs (k + tests_among (logics_of us)) (first + list_size xs) other next from
        (omega (arith, b)) l.2 w.1 parts.2 o n)
    whens_go c lo hi number a its no_whens (more_laid_whens us xs vs) k at other next from b l w s o n = absurd l
    whens_go c lo hi number a its (more_whens v ws) no_laid_whens k at other next from b l w s o n = absurd l

    led_as_laid : (c : Copied) (number at next : ℕ) (x y : LaidAct) → x ≡ y →
        (Stands at (act_nodes c number y at next) → AreLed at (act_nodes c number y at next)) →
        Stands at (act_nodes c number x at next) → AreLed at (act_nodes c number x at next)
    led_as_laid c number at next x y e f =
        subst (λ (z : LaidAct). Stands at (act_nodes c number z at next) → AreLed at (act_nodes c number z at next)) (sym e) f

    -- ---- all nodes

    mutual
      list_led : (c : Copied) (lo hi : ℕ) (ss : Stmts) (xs : LaidList) (at next : ℕ) → AreLaid p lo hi ss xs →
          AreWellFormed p ss → CopyRests c → Stands at (list_nodes c xs at next) → Rests next →
          AreLed at (list_nodes c xs at next)
      list_led c lo hi no_stmts no_laid at next l w k s n = none_led at
      list_led c lo hi (more_stmts (MkStmt i line a) ss) (more_laid (MkLaid m x) xs) at next l w k s n =
          let mid = at + act_size x in
          let later = first_of_list xs mid next in
          let ns = act_nodes c m x at later in
          let ms = list_nodes c xs mid next in
          let size : at + length ns ≡ mid = omega (arith, length-act c m x at later) in
          let rest : Stands mid ms = at_back at mid ns ms size s in
          append_led at mid ns ms size
          (act_led c lo hi a x m at later l.0.1 (subst (λ (j : ℕ). act_at p j ≡ Some a) l.0.0 w.0) w.1 k
          (in_front at ns ms s) (list_rests c lo hi ss xs mid next l.1 w.2 rest n))
          (list_led c lo hi ss xs mid next l.1 w.2 k rest n)
      list_led c lo hi no_stmts (more_laid x xs) at next l w k s n = absurd l
      list_led c lo hi (more_stmts y ss) no_laid at next l w k s n = absurd l

      phrase_led : (c : Copied) (lo hi : ℕ) (y : Phrase) (x : LaidPhrase) (at next : ℕ) → IsLaidPhrase p lo hi y x →
          IsWellFormedPhrase p y → CopyRests c → Stands at (phrase_nodes c x at next) → Rests next →
          AreLed at (phrase_nodes c x at next)
      phrase_led c lo hi left_out no_phrase at next l w k s n = none_led at
      phrase_led c lo hi (given ss) (a_phrase xs) at next l w k s n = list_led c lo hi ss xs at next l w k s n
      phrase_led c lo hi left_out (a_phrase xs) at next l w k s n = absurd l
      phrase_led c lo hi (given ss) no_phrase at next l w k s n = absurd l

      whens_led : (c : Copied) (lo hi number : ℕ) (a : Act) → act_at p number ≡ Some a → (ws : Whens) (xs : LaidWhens)
          (i at other next : ℕ) → AreLaidWhens p lo hi ws xs → AreWellFormedWhens p ws → CopyRests c →
          Stands at (whens_nodes c number xs i at other next) → Rests other → Rests next →
          AreLed at (whens_nodes c number xs i at other next)
      whens_led c lo hi number a its no_whens no_laid_whens i at other next l w k s o n = none_led at
      whens_led c lo hi number a its (more_whens (MkWhen ts ss) ws) (more_laid_whens us xs vs) i at other next l w k s o n =
          let parts = when_parts c number us xs vs i at other next s in
          let first = at + tests_among (logics_of us) in
          let many = i + tests_among (logics_of us) in
          let list_first = list_rests c lo hi ss xs first next l.1 w.0 parts.1 n in
          when_led c number us xs vs i at other next
          (any_led c number a its false (logics_of us) i at _ _ first (omega arith) parts.0
          (goes_to_rest number first _ list_first)
          (whens_go c lo hi number a its ws vs many (first + list_size xs) other next first (omega arith) l.2 w.1 parts.2 o n))
          (list_led c lo hi ss xs first next l.1 w.0 k parts.1 n)
          (whens_led c lo hi number a its ws vs many (first + list_size xs) other next l.2 w.1 k parts.2 o n)
      whens_led c lo hi number a its no_whens (more_laid_whens us xs vs) i at other next l w k s o n = absurd l
      whens_led c lo hi number a its (more_whens v ws) no_laid_whens i at other next l w k s o n = absurd l

      body_led : (c : Copied) (lo hi number : ℕ) (b : Body) (x : LaidBody) (at next : ℕ) → IsLaidBody p lo hi b x →
          IsWellFormedBody p b → CopyRests c → Stands at (body_nodes c number x at next) → Rests next →
          AreLed at (body_nodes c number x at next)
      body_led c lo hi number (inline ss) (own_list xs) at next l w k s n = list_led c lo hi ss xs at next l w k s n
      body_led c lo hi number (range first last) (copy i ps) at next l w k s n =
          let many = suc last - first in
          let inner = copied_in c number i ps at next in
          paras_led inner first last first many ps at next l.1
          (record { para = λ q. para_rests inner first last first many (q - i) ps at next l.1 s n; last = k.last }) s n
      body_led c lo hi number (inline ss) (copy i ps) at next l w k s n = absurd l
      body_led c lo hi number (range first last) (own_list xs) at next l w k s n = absurd l

      paras_led : (c : Copied) (lo hi from many : ℕ) (ps : LaidParas) (at next : ℕ) → AreLaidParas p lo hi from many ps →
          CopyRests c → Stands at (paras_nodes c ps at next) → Rests next → AreLed at (paras_nodes c ps at next)
      paras_led c lo hi from zero no_laid_paras at next l k s n = none_led at
      paras_led c lo hi from (suc m) (more_laid_paras xs ps) at next l k s n =
          let later = at + list_size xs in
          let ns = para_front c xs ps at next in
          let ms = para_behind c xs ps at next in
          let rest : Stands later ms = others c xs ps at next s in
          append_led at later ns ms (para_size c xs ps at next)
          (list_led c lo hi (body_of_para p from) xs at (first_of_paras ps later next) l.0 (para_whole p p.paras from kept) k
          (in_front at ns ms s) (paras_rests c lo hi (suc from) m ps later next l.1 rest n))
          (paras_led c lo hi (suc from) m ps later next l.1 k rest n)
      paras_led c lo hi from zero (more_laid_paras xs ps) at next l k s n = absurd l
      paras_led c lo hi from (suc m) no_laid_paras at next l k s n = absurd l

      act_led : (c : Copied) (lo hi : ℕ) (a : Act) (x : LaidAct) (number at next : ℕ) → IsLaidAct p lo hi a x →
          act_at p number ≡ Some a → IsWellFormedAct p a → CopyRests c → Stands at (act_nodes c number x at next) →
          Rests next → AreLed at (act_nodes c number x at next)
      act_led c lo hi (move v places) x number at next l its w k s n =
          led_as_laid c number at next x moving l (λ _. one_led at _
          (own c number (move v places) its at true _ (goes_to_rest number (at + 1) next n, tt) refl)) s
      act_led c lo hi (show xs) x number at next l its w k s n =
          led_as_laid c number at next x showing l (λ _. one_led at _
          (own c number (show xs) its at true _ (goes_to_rest number (at + 1) next n, tt) refl)) s
      act_led c lo hi nothing x number at next l its w k s n =
          led_as_laid c number at next x skipping l (λ _. one_led at _
          (own c number nothing its at true _ (goes_to_rest number (at + 1) next n, tt) refl)) s
      act_led c lo hi (go to) x number at next l its w k s n =
          led_as_laid c number at next x (going to) l.0 (λ _. one_led at _
          (own c number (go to) its at true _ (goes_to_rest number (at + 1) (c.para to) (k.para to), tt) refl)) s
      act_led c lo hi stop x number at next l its w k s n =
          led_as_laid c number at next x ending l (λ _. one_led at _
          (own c number stop its at true _ (goes_to_rest number (at + 1) c.final k.last, tt) refl)) s
      act_led c lo hi (open_files os) x number at next l its w k s n =
          led_as_laid c number at next x (opening os) l
          (λ t. open_led c number (open_files os) its k.last true os 0 at next t n (λ _. refl)) s
      act_led c lo hi (close_files fs) x number at next l its w k s n =
          led_as_laid c number at next x (closing fs) l
          (λ t. close_led c number (close_files fs) its k.last true fs 0 at next t n) s
      act_led c lo hi (write r from) x number at next l its w k s n =
          led_as_laid c number at next x (writing (file_of p r) (is_some from)) l
          (λ t. write_led c number (write r from) its k.last (file_of p r) (is_some from) at next t n) s
      act_led c lo hi (arithmetic sum ts remainder size fine) (computing u v) number at next l its w k s n =
          let last = at + 1 + phrase_size u in
          let ns = phrase_nodes c u (at + 1) next in
          let ms = list_nodes c v last next in
          let long : at + 1 + length ns ≡ last = omega (arith, length-phrase c u (at + 1) next) in
          let inner = rest_of at _ _ s in
          let its_phrase : Stands (at + 1) ns = in_front (at + 1) ns ms inner in
          let its_list : Stands last ms = at_back (at + 1) last ns ms long inner in
          more_led at _ _
          (own c number (arithmetic sum ts remainder size fine) its at true _ (
            goes_to_rest number (at + 1) _ (list_rests c lo hi fine v last next l.1 w.1 its_list n),
            size_goes c lo hi number size u (at + 1) next (at + 1) l.0 w.0 its_phrase n,
          ) refl)
          (append_led (at + 1) last ns ms long (phrase_led c lo hi size u (at + 1) next l.0 w.0 k its_phrase n)
          (list_led c lo hi fine v last next l.1 w.1 k its_list n))
      act_led c lo hi (if_ t held other) (deciding u xs ys) number at next l its w k s n =
          let mid = at + tests_in u in
          let last = mid + list_size xs in
          let tr = first_of_list xs mid next in
          let fa = first_of_list ys last next in
          let tests = logic_nodes c number true u 0 at tr fa in
          let ns = list_nodes c xs mid next in
          let ms = list_nodes c ys last next in
          let first : at + length tests ≡ mid = omega (arith, length-logic c number true u 0 at tr fa) in
          let second : mid + length ns ≡ last = omega (arith, length-list c xs mid next) in
          let parts = three at mid last tests ns ms first second s in
          three_led at mid last tests ns ms first second
          (tests_led c number (if_ t held other) its true u 0 at tr fa parts.0
          (list_rests c lo hi held xs mid next l.1 w.1 parts.1 n) (list_rests c lo hi other ys last next l.2 w.2 parts.2 n))
          (list_led c lo hi held xs mid next l.1 w.1 k parts.1 n)
          (list_led c lo hi other ys last next l.2 w.2 k parts.2 n)
      act_led c lo hi (evaluate ws other) (choosing xs ys) number at next l its w k s n =
          let last = at + 1 + whens_size xs in
          let no_when = first_of_list ys last next in
          let ns = whens_nodes c number xs 0 (at + 1) no_when next in
          let ms = list_nodes c ys last next in
          let long : at + 1 + length ns ≡ last = omega (arith, length-whens c number xs 0 (at + 1) no_when next) in
          let inner = rest_of at _ _ s in
          let its_whens : Stands (at + 1) ns = in_front (at + 1) ns ms inner in
          let its_list : Stands last ms = at_back (at + 1) last ns ms long inner in
          let o = list_rests c lo hi other ys last next l.1 w.1 its_list n in
          more_led at _ _
          (own c number (evaluate ws other) its at true _ (
            whens_go c lo hi number (evaluate ws other) its ws xs 0 (at + 1) no_when next (at + 1) (omega arith) l.0 w.0
                its_whens o n,
            tt,
          ) refl)
          (append_led (at + 1) last ns ms long
          (whens_led c lo hi number (evaluate ws other) its ws xs 0 (at + 1) no_when next l.0 w.0 k its_whens o n)
          (list_led c lo hi other ys last next l.1 w.1 k its_list n))
      act_led c lo hi (perform body turns) (performing x t) number at next l its w k s n =
          let is = subst (λ (u : Turns). act_at p number ≡ Some (perform body u)) l.0 its in
          let good = subst IsWellFormedTurns l.0 w.0 in
          let mid = body_at t at in
          let last = mid + body_size x in
          let ns = loop_before c number t x at next in
          let ms = body_nodes c number x mid (body_next t at x next) in
          let ls = loop_behind c number t x at next in
          let first : at + length ns ≡ mid = length-before c number t x at next in
          let second : mid + length ms ≡ last = omega (arith, length-body c number x mid (body_next t at x next)) in
          let parts = three at mid last ns ms ls first second s in
          let on = next_rests c number (perform body t) is t x at next good parts.0 parts.2 n in
          let own_first = body_rests c lo hi number body x mid (body_next t at x next) l.1 w.1 parts.1 on in
          three_led at mid last ns ms ls first second
          (before_led c number (perform body t) is t x at next good parts.0 own_first n)
          (body_led c lo hi number body x mid (body_next t at x next) l.1 w.1 k parts.1 on)
          (behind_led c number (perform body t) is t x at next good parts.0 parts.2 own_first n)
      act_led c lo hi (read f into end_ fine) (reading g h u v) number at next l its w k s n =
          let mid = at + 1 + one_if h in
          let last = mid + phrase_size u in
          let to_end = end_to c number u g mid next in
          let to_fine = first_of_list v last next in
          let own_nodes = read_nodes c number g h at to_end to_fine next in
          let ns = phrase_nodes c u mid next in
          let ms = list_nodes c v last next in
          let first : at + length own_nodes ≡ mid = omega (arith, length-read c number g h at to_end to_fine next) in
          let second : mid + length ns ≡ last = omega (arith, length-phrase c u mid next) in
          let parts = three at mid last own_nodes ns ms first second s in
          three_led at mid last own_nodes ns ms first second
          (read_led c number (read f into end_ fine) its k.last g h at to_end to_fine next parts.0
          (end_rests c lo hi number end_ u g mid next l.2 w.0 k parts.1 n)
          (list_rests c lo hi fine v last next l.3 w.1 parts.2 n) n)
          (phrase_led c lo hi end_ u mid next l.2 w.0 k parts.1 n)
          (list_led c lo hi fine v last next l.3 w.1 k parts.2 n)
      act_led c lo hi (arithmetic sum ts remainder size fine) x number at next l its w k s n = absurd l
      act_led c lo hi (if_ t held other) x number at next l its w k s n = absurd l
      act_led c lo hi (evaluate ws other) x number at next l its w k s n = absurd l
      act_led c lo hi (perform body turns) x number at next l its w k s n = absurd l
      act_led c lo hi (read f into end_ fine) x number at next l its w k s n = absurd l

-- ---- programs

-- all nodes but the last one
abbrev pub step_nodes : Program → LaidParas → List Noded
step_nodes p ps = paras_nodes (main_copy p ps) ps 1 (final_of ps)

module _ (p : Program) (ps : LaidParas) (laid : IsMainCopy p ps) (kept : IsWellFormed p) where
  abbrev get : ℕ → Option Noded
  get = node_at (step_nodes p ps)

  they_stand : Stands p get (final_of ps) 1 (step_nodes p ps)
  they_stand = record { each = whole (step_nodes p ps) }

  last_rests : Rests p get (final_of ps) (final_of ps)
  last_rests = record { is = inl refl }

  copy_rests : CopyRests p get (final_of ps) (main_copy p ps)
  copy_rests = record {
    para = λ q. para_rests p get (final_of ps) kept (main_copy p ps) 0 (last_para p) 0 (length p.paras) q ps 1 (final_of ps)
        laid they_stand last_rests;
    last = last_rests;
  }

  pub program_led : AreLed p get (final_of ps) 1 (step_nodes p ps)
  program_led =
      paras_led p get (final_of ps) kept (main_copy p ps) 0 (last_para p) 0 (length p.paras) ps 1 (final_of ps) laid
      copy_rests they_stand last_rests

  pub program_begins : Rests p get (final_of ps) 1
  program_begins =
      paras_begin p get (final_of ps) kept (main_copy p ps) 0 (last_para p) 0 (length p.paras) ps 1 (final_of ps) laid
      they_stand refl last_rests
