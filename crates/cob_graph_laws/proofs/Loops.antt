-- Where PERFORM, its tests and its augmenting lead.
use Rattle.std.proofs.Common.{◌≡◌, ℕ, ◌+◌, Bool, true, false, List, [], ◌∷◌, ◌++◌, length, Some, Result, Ok, Err, refl, sym, subst, arith, length-append}
use Rattle.std.specs.Prelude.{slice_get, if◌then◌else◌}
use Rattle.cob_tree.specs.declared.fault.Kind.{Kind}
use Rattle.cob_program.specs.Logic.{Test, Logic}
use Rattle.cob_program.specs.Act.{Turns, once, times, until, varying, perform, Body}
use Rattle.cob_runs.specs.declared.action.Action.TheVariants as action
use Rattle.cob_runs.specs.Faults.{◌>>=◌}
use Rattle.cob_runs.specs.Deciding.{logic_holds}
use Rattle.cob_runs.specs.State.{World, Doing, testing, augmenting, going}
use Rattle.cob_runs.specs.Acts.{count_of, set_count, count_down, set_varied, augment}
use Rattle.cob_runs.specs.Steps.{body_of, loop_begun, is_left, turn, tested, augmented}
use Rattle.cob_runs.specs.Effects.{act_at, tests_of, tests_in_turns, edge_decided, edge_tested}
use Rattle.cob_graph.specs.Laid.{LaidBody, performing, tests_in, body_size}
use Rattle.cob_graph.specs.Places.{first_of_body, body_at, tests_at, augment_at, body_next}
use Rattle.cob_graph.specs.Nodes.{Copied, logic_nodes, loop_before, loop_behind, body_nodes}
use Rattle.cob_graph.specs.Graphs.{all_nodes}
use Rattle.cob_graph.specs.WellFormed.{Begins}
use Rattle.cob_graph.specs.Lookup.{node_at}
use Rattle.cob_graph_laws.proofs.Fronts.{Runs, front, back, moved, behind}
use Rattle.cob_graph.proofs.Lengths.{length-logic, length-body}
use Rattle.cob_graph_laws.proofs.Relation.{Setting, HasTest, HasAugment, choice, Way, Stand, Here, ActAt, TestAt, AugmentAt, Stands, Standing, among}
use Rattle.cob_graph_laws.proofs.Settling.{body_stands}
use Rattle.cob_graph_laws.proofs.Conditions.{Decides, two_ways, logic_decides, begins_at}
use Rattle.cob_graph_laws.proofs.Statements.{Leads, one_way}

length-before : (c : Copied) (n : ℕ) (turns : Turns) (x : LaidBody) (at next : ℕ) →
    at + length (loop_before c n turns x at next) ≡ body_at turns at
length-before c n once x at next = omega arith
length-before c n (times v) x at next = omega arith
length-before c n (until false t) x at next =
    omega (arith, length-logic c n true t 0 (at + 1) next (first_of_body x (body_at (until false t) at) (at + 1)))
length-before c n (until true t) x at next = omega arith
length-before c n (varying false i from by t) x at next =
    omega (
      arith,
      length-logic c n true t 0 (at + 1) next
          (first_of_body x (at + 1 + tests_in t) (augment_at (varying false i from by t) at x)),
    )
length-before c n (varying true i from by t) x at next = omega arith

module _ (s : Setting) (h : Here s) (number : ℕ) (body : Body) (turns : Turns) (x : LaidBody) (at next : ℕ)
    (y : ActAt s h number (perform body turns) (performing x turns) at next) where
  pub before : Stand s at (loop_before h.c number turns x at next)
  before = front (node_at (all_nodes s.p s.is.copies)) at (loop_before h.c number turns x at next)
      (body_nodes h.c number x (body_at turns at) (body_next turns at x next))
      (front (node_at (all_nodes s.p s.is.copies)) at
      (loop_before h.c number turns x at next ++ body_nodes h.c number x (body_at turns at)
      (body_next turns at x next))
      (loop_behind h.c number turns x at next) y.stand)

  within : Stand s (body_at turns at) (body_nodes h.c number x (body_at turns at) (body_next turns at x next))
  within =
      let all = node_at (all_nodes s.p s.is.copies) in
      let ns = loop_before h.c number turns x at next in
      let ms = body_nodes h.c number x (body_at turns at) (body_next turns at x next) in
      moved all (at + length ns) (body_at turns at) ms (length-before h.c number turns x at next)
      (back all at (length ns) ns ms refl (front all at (ns ++ ms) (loop_behind h.c number turns x at next) y.stand))

  pub after : Stand s (body_at turns at + body_size x) (loop_behind h.c number turns x at next)
  after =
      let all = node_at (all_nodes s.p s.is.copies) in
      let ns = loop_before h.c number turns x at next in
      let ms = body_nodes h.c number x (body_at turns at) (body_next turns at x next) in
      let ls = loop_behind h.c number turns x at next in
      moved all (at + length (ns ++ ms)) (body_at turns at + body_size x) ls
      (omega (
        arith,
        length-before h.c number turns x at next,
        length-body h.c number x (body_at turns at)
            (body_next turns at x next),
        length-append ns ms,
      ))
      (back all at (length (ns ++ ms)) (ns ++ ms) ls refl y.stand)

  -- ---- what stands at the loop's parts

  module _ (hs : List (Here s)) where
    body_there : (ds : List Doing) → Stands s ds (h ∷ hs) (body_next turns at x next) →
        Standing s (body_of body ∷ ds) (first_of_body x (body_at turns at) (body_next turns at x next))
    body_there ds st = body_stands s h hs ds number body x (body_at turns at) (body_next turns at x next) y.whole.1
        y.laid.1 within st

    test_there : (ds : List Doing) → HasTest turns → Stands s ds (h ∷ hs) next →
        Stands s (testing number body turns ∷ ds) (h ∷ hs) (tests_at turns at x)
    test_there ds t st = (next, record { laid = x; at = at; loop = y; tests = t; begins = refl }, st)

    augment_there : (ds : List Doing) → HasTest turns → HasAugment turns → Stands s ds (h ∷ hs) next →
        Stands s (augmenting number body turns ∷ testing number body turns ∷ ds) (h ∷ hs) (augment_at turns at x)
    augment_there ds t a st = (
      tests_at turns at x,
      record
          { laid = x; at = at; next = next; loop = y; augments = a; begins = refl; goes = refl },
      test_there ds t st,
    )

-- ---- steps

module _ (s : Setting) (h : Here s) (hs : List (Here s)) (ds : List Doing) (number k : ℕ) (w : World) where
  pub loop_leads : (body : Body) (turns : Turns) (x : LaidBody) (at next : ℕ) →
      ActAt s h number (perform body turns) (performing x turns) at next → Way s k at w →
      Stands s ds (h ∷ hs) next → Leads s k number w (loop_begun s.p (choice s k) number body turns w ds)
  loop_leads body once x at next y way st =
      one_way s h.c number k at w (perform body once) _ action.Skip refl (first_of_body x (at + 1) next)
      (body_of body ∷ ds) way y.its (before s h number body once x at next y).0
      (0, omega arith, refl) (body_there s h number body once x at next y hs ds st) (Ok w) refl (Ok w) refl
  loop_leads body (times v) x at next y way st =
      one_way s h.c number k at w (perform body (times v)) _ action.SetCount refl (at + 1)
      (testing number body (times v) ∷ ds) way y.its (before s h number body (times v) x at next y).0
      (0, omega arith, refl) (among s h hs _ _ (test_there s h number body (times v) x at next y hs ds tt st))
      (set_count s.p.layout number v w) refl _ refl
  loop_leads body (until false t) x at next y way st =
      one_way s h.c number k at w (perform body (until false t)) _ action.Skip refl (at + 1)
      (testing number body (until false t) ∷ ds) way y.its (before s h number body (until false t) x at next y).0
      (0, omega arith, refl) (among s h hs _ _ (test_there s h number body (until false t) x at next y hs ds tt st))
      (Ok w) refl (Ok w) refl
  loop_leads body (until true t) x at next y way st =
      one_way s h.c number k at w (perform body (until true t)) _ action.Skip refl
      (first_of_body x (at + 1) (tests_at (until true t) at x))
      (body_of body ∷ testing number body (until true t) ∷ ds)
      way y.its (before s h number body (until true t) x at next y).0 (0, omega arith, refl)
      (body_there s h number body (until true t) x at next y hs (testing number body (until true t) ∷ ds)
      (test_there s h number body (until true t) x at next y hs ds tt st)) (Ok w) refl (Ok w) refl
  loop_leads body (varying false i from by t) x at next y way st =
      one_way s h.c number k at w (perform body (varying false i from by t)) _ action.Assign refl (at + 1)
      (testing number body (varying false i from by t) ∷ ds)
      way y.its (before s h number body (varying false i from by t) x at next y).0 (0, omega arith, refl)
      (among s h hs _ _ (test_there s h number body (varying false i from by t) x at next y hs ds tt st))
      (set_varied s.p.layout i from w) refl _ refl
  loop_leads body (varying true i from by t) x at next y way st =
      one_way s h.c number k at w (perform body (varying true i from by t)) _ action.Assign refl
      (first_of_body x (at + 1) (tests_at (varying true i from by t) at x))
      (body_of body ∷ testing number body (varying true i from by t) ∷ ds) way y.its
      (before s h number body (varying true i from by t) x at next y).0 (0, omega arith, refl)
      (body_there s h number body (varying true i from by t) x at next y hs
      (testing number body (varying true i from by t) ∷ ds)
      (test_there s h number body (varying true i from by t) x at next y hs ds tt st)) (set_varied s.p.layout i from w)
      refl _ refl

  turn_on : (tr fa : ℕ) (more : List Doing) (r : Result Bool Kind) → Decides s h.c number k w tr fa r →
      Standing s more tr → Standing s ds fa →
      Leads s k number w (r >>= λ b. Ok (going w (if b then more else ds)))
  turn_on tr fa more (Ok true) d a b = record { node = tr; way = d; standing = a }
  turn_on tr fa more (Ok false) d a b = record { node = fa; way = d; standing = b }
  turn_on tr fa more (Err kind) d a b = d

  -- a loop goes on where its condition doesn't hold
  until_on : (tr fa : ℕ) (more : List Doing) (r : Result Bool Kind) → Decides s h.c number k w tr fa r →
      Standing s ds tr → Standing s more fa →
      Leads s k number w ((r >>= λ b. Ok (if b then false else true)) >>= λ b. Ok (going w (if b then more else ds)))
  until_on tr fa more (Ok true) d a b = record { node = tr; way = d; standing = a }
  until_on tr fa more (Ok false) d a b = record { node = fa; way = d; standing = b }
  until_on tr fa more (Err kind) d a b = d

  -- the test of a loop's condition, whose nodes begin at a node
  condition_leads : (body : Body) (turns : Turns) (t : Logic) (at fa next : ℕ) (more : List Doing) →
      act_at s.p number ≡ Some (perform body turns) → tests_in_turns turns ≡ tests_of t → Begins t →
      ((wanted : Bool) (i : ℕ) → edge_tested s.p number (choice s k) w wanted i (perform body turns) ≡ edge_decided s.p
      number (choice s k) w wanted (slice_get (tests_in_turns turns) i)) →
      Stand s at (logic_nodes h.c number true t 0 at next fa) → Way s k at w → Standing s ds next → Standing s more fa →
      Leads s k number w ((logic_holds s.p.layout w.storage t >>= λ b. Ok (if b then false else true)) >>= λ b. Ok
      (going w (if b then more else ds)))
  condition_leads body turns t at fa next more its e b f stand way a o =
      until_on next fa more (logic_holds s.p.layout w.storage t)
      (logic_decides s h.c number k w (perform body turns) (tests_in_turns turns) its f true t 0 at next fa (λ q. b)
      (subst (λ (l : List Test). Runs (slice_get (tests_in_turns turns)) 0 l) e
      (behind [] (tests_in_turns turns) 0 refl)) stand
      (subst (λ (n : ℕ). Way s k n w) (sym (begins_at t at next fa b)) way)) a o

  test_leads : (body : Body) (turns : Turns) (x : LaidBody) (at next : ℕ) →
      ActAt s h number (perform body turns) (performing x turns) at next → HasTest turns →
      Way s k (tests_at turns at x) w → Stands s ds (h ∷ hs) next → Leads s k number w
      (tested s.p (choice s k) number body turns w ds)
  test_leads body once x at next y t way st = absurd t
  test_leads body (times v) x at next y t way st =
      turn_on (first_of_body x (at + 2) (augment_at (times v) at x)) next
      (turn s.p (choice s k) number body (times v) ds)
      (Ok (is_left (count_of number w)))
      (two_ways s h.c number k w true (at + 1) 0 (first_of_body x (at + 2) (augment_at (times v) at x)) next
      (perform body (times v))
      (Ok (is_left (count_of number w))) way
      (before s h number body (times v) x at next y).1.0 y.its (λ wanted. refl) _ refl)
      (body_there s h number body (times v) x at next y hs _
      (augment_there s h number body (times v) x at next y hs ds tt tt st))
      (among s h hs _ _ st)
  test_leads body (until false u) x at next y t way st =
      condition_leads body (until false u) u (at + 1) (first_of_body x (body_at (until false u) at) (at + 1)) next
      (turn s.p (choice s k) number body (until false u) ds)
      y.its refl y.whole.0 (λ wanted i. refl) (before s h number body (until false u) x at next y).1 way
      (among s h hs _ _ st)
      (body_there s h number body (until false u) x at next y hs _
      (test_there s h number body (until false u) x at next y hs ds tt st))
  test_leads body (until true u) x at next y t way st =
      condition_leads body (until true u) u (tests_at (until true u) at x)
      (first_of_body x (at + 1) (tests_at (until true u) at x)) next
      (turn s.p (choice s k) number body (until true u) ds)
      y.its refl y.whole.0 (λ wanted i. refl) (after s h number body (until true u) x at next y) way
      (among s h hs _ _ st)
      (body_there s h number body (until true u) x at next y hs _
      (test_there s h number body (until true u) x at next y hs ds tt st))
  test_leads body (varying false i from by u) x at next y t way st =
      let turns = varying false i from by u in
      condition_leads body turns u (at + 1) (first_of_body x (at + 1 + tests_in u) (augment_at turns at x)) next
      (turn s.p (choice s k) number body turns ds)
      y.its refl y.whole.0 (λ wanted i. refl) (before s h number body turns x at next y).1 way
      (among s h hs _ _ st)
      (body_there s h number body turns x at next y hs _
      (augment_there s h number body turns x at next y hs ds tt tt st))
  test_leads body (varying true i from by u) x at next y t way st =
      let turns = varying true i from by u in
      condition_leads body turns u (tests_at turns at x) (augment_at turns at x) next
      (turn s.p (choice s k) number body turns ds)
      y.its refl y.whole.0 (λ wanted i. refl)
      (front (node_at (all_nodes s.p s.is.copies)) (tests_at turns at x)
      (logic_nodes h.c number true u 0 (tests_at turns at x) next (augment_at turns at x)) _
      (after s h number body turns x at next y))
      way (among s h hs _ _ st)
      (among s h hs _ _ (augment_there s h number body turns x at next y hs ds tt tt st))

  augment_leads : (body : Body) (turns : Turns) (x : LaidBody) (at next : ℕ) →
      ActAt s h number (perform body turns) (performing x turns) at next → HasAugment turns →
      Way s k (augment_at turns at x) w → Stands s ds (h ∷ hs) (tests_at turns at x) →
      Leads s k number w (augmented s.p (choice s k) number body turns w ds)
  augment_leads body once x at next y t way st = absurd t
  augment_leads body (until a u) x at next y t way st = absurd t
  augment_leads body (times v) x at next y t way st =
      one_way s h.c number k (augment_at (times v) at x) w (perform body (times v)) _ action.Down refl (at + 1) ds way
      y.its (after s h number body (times v) x at next y).0
      (0, omega arith, refl) (among s h hs _ _ st) (Ok (count_down s.p.layout number w)) refl _ refl
  augment_leads body (varying false i from by u) x at next y t way st =
      one_way s h.c number k (augment_at (varying false i from by u) at x) w (perform body (varying false i from by u))
      _ action.Done refl (at + 1) ds way y.its
      (after s h number body (varying false i from by u) x at next y).0 (0, omega arith, refl)
      (among s h hs _ _ st) (augment s.p.layout i by w) refl _ refl
  augment_leads body (varying true i from by u) x at next y t way st =
      let turns = varying true i from by u in
      one_way s h.c number k (augment_at turns at x) w (perform body turns) _ action.Done refl
      (first_of_body x (at + 1) (tests_at turns at x)) (body_of body ∷ ds) way y.its
      (back (node_at (all_nodes s.p s.is.copies)) (tests_at turns at x) (tests_in u)
      (logic_nodes h.c number true u 0 (tests_at turns at x) next (augment_at turns at x)) _
      (length-logic h.c number true u 0 (tests_at turns at x) next (augment_at turns at x))
      (after s h number body turns x at next y)).0
      (0, omega arith, refl) (body_there s h number body turns x at next y hs ds st) (augment s.p.layout i by w) refl _
      refl

  pub testing_leads : (body : Body) (turns : Turns) (n next : ℕ) → TestAt s h number body turns n next → Way s k n w →
      Stands s ds (h ∷ hs) next →
      Leads s k number w (tested s.p (choice s k) number body turns w ds)
  testing_leads body turns n next t way st = test_leads body turns t.laid t.at next t.loop t.tests
      (subst (λ (m : ℕ). Way s k m w) t.begins way) st

  pub augmenting_leads : (body : Body) (turns : Turns) (n onto : ℕ) → AugmentAt s h number body turns n onto →
      Way s k n w → Stands s ds (h ∷ hs) onto →
      Leads s k number w (augmented s.p (choice s k) number body turns w ds)
  augmenting_leads body turns n onto t way st =
      augment_leads body turns t.laid t.at t.next t.loop t.augments (subst (λ (m : ℕ). Way s k m w) t.begins way)
      (subst (λ (m : ℕ). Stands s ds (h ∷ hs) m) t.goes st)
