-- The nodes of a PERFORM beside those of its body.
use Rattle.std.proofs.Common.{◌≡◌, ◌≤◌, ◌<◌, inl, inr, ℕ, ◌+◌, ◌==◌, ◌||◌, ◌⊎◌, Bool, true, false, [], ◌∷◌, length, Option, Some, refl, sym, ap, subst, ◌∙◌, arith}
use Rattle.std.proofs.Math.Bool.{or-false}
use Rattle.std.proofs.lemmas.Bool.{or_cases, eqb-true, eq-eqb}
use Rattle.cob_data.specs.declared.layout.Sender.{Sender}
use Rattle.cob_program.specs.Act.{Turns, once, times, until, varying, Act, perform, Body}
use Rattle.cob_runs.specs.declared.action.Action.TheVariants as action
use Rattle.cob_runs.specs.Effects.{act_at}
use Rattle.cob_graph.specs.Laid.{LaidAct, performing, LaidBody, tests_in, loop_nodes, act_size, body_size}
use Rattle.cob_graph.specs.Places.{first_of_body, body_at, tests_at, augment_at, body_next}
use Rattle.cob_graph.specs.Nodes.{Copied, node, logic_nodes, loop_before, loop_behind}
use Rattle.cob_graph.specs.Copies.{IsLaidAct, IsLaidBody}
use Rattle.cob_graph.specs.WellFormed.{IsWellFormedTurns, IsWellFormedBody, IsWellFormed}
use Rattle.cob_graph.proofs.Lengths.{length-logic}
use Rattle.graph_runs.proofs.Inside.{nodes_before, in_turns, in_body, Follows, low, high, Alike, first_alike, alike_front, alike_back, parted}
use Rattle.graph_runs.proofs.Sizes.{same_act}
use Rattle.graph_runs.proofs.Entering.{Setting, Below, IsOwn, IsFine, AllFine, joined, keeps, at_node, logic_fine, Fits, smaller}
use Rattle.graph_runs.proofs.Firsts.{ActAt, BodyAt, first_body, some_tests}

abbrev pub nodes_behind : Turns → ℕ
nodes_behind once = 0
nodes_behind (times x) = 1
nodes_behind (until false t) = 0
nodes_behind (until true t) = tests_in t
nodes_behind (varying false item start by t) = 1
nodes_behind (varying true item start by t) = tests_in t + 1

around : (turns : Turns) → nodes_before turns + nodes_behind turns ≡ loop_nodes turns
around once = omega arith
around (times x) = omega arith
around (until false t) = omega arith
around (until true t) = omega arith
around (varying false item start by t) = omega arith
around (varying true item start by t) = omega arith

before_some : (turns : Turns) → 1 ≤ nodes_before turns
before_some once = omega arith
before_some (times x) = omega arith
before_some (until false t) = omega arith
before_some (until true t) = omega arith
before_some (varying false item start by t) = omega arith
before_some (varying true item start by t) = omega arith

pub body_place : (turns : Turns) (at : ℕ) → at + nodes_before turns ≡ body_at turns at
body_place once at = refl
body_place (times x) at = refl
body_place (until false t) at = omega arith
body_place (until true t) at = refl
body_place (varying false item start by t) at = omega arith
body_place (varying true item start by t) at = refl

pub length-before : (c : Copied) (n : ℕ) (turns : Turns) (x : LaidBody) (at next : ℕ) →
    length (loop_before c n turns x at next) ≡ nodes_before turns
length-before c n once x at next = refl
length-before c n (times v) x at next = refl
length-before c n (until false t) x at next =
    omega (arith, length-logic c n true t 0 (at + 1) next (first_of_body x (body_at (until false t) at) (at + 1)))
length-before c n (until true t) x at next = refl
length-before c n (varying false i from by t) x at next =
    omega (
      arith,
      length-logic c n true t 0 (at + 1) next
          (first_of_body x (at + 1 + tests_in t) (augment_at (varying false i from by t) at x)),
    )
length-before c n (varying true i from by t) x at next = refl

or_right : (a b : Bool) → b ≡ true → (a || b) ≡ true
or_right true b e = refl
or_right false b e = e

same_some : {A : Type 0} (a c : A) → ◌≡◌ {A = Option A} (Some a) (Some c) → a ≡ c
same_some a c e = cc

-- a PERFORM whose nodes begin at a node, within a copy in which what is less than it fits into the loop
pub record Performed (s : Setting) (b : Bool) (number : ℕ) (turns : Turns) (x : LaidBody) (at : ℕ) : Type 0 where
  pub lo : ℕ
  pub hi : ℕ
  pub body : Body
  pub whole : IsWellFormed s.p
  pub its : act_at s.p number ≡ Some (perform body turns)
  pub turns_ : IsWellFormedTurns turns
  pub own : IsWellFormedBody s.p body
  pub laid : IsLaidBody s.p lo hi body x
  pub fits : Fits s b (act_size (performing x turns))
  pub follows : ActAt s b at number (performing x turns)

module _ (s : Setting) (b : Bool) (number : ℕ) (x : LaidBody) (at : ℕ) where
  -- ---- the loop's own statement

  -- what it does is as great wherever it is laid
  own_size : (turns : Turns) (h : Performed s b number turns x at) (from to : ℕ) (a : Act) (z : LaidAct) →
      IsOwn s number → act_at s.p s.loop ≡ Some a → IsLaidAct s.p from to a z →
      act_size (performing x turns) ≡ act_size z
  own_size turns h from to a z e f laid =
      let same = same_some (perform h.body turns) a (sym h.its ∙ ap (act_at s.p) e ∙ f) in
      same_act s.p h.lo h.hi from to (perform h.body turns) (performing x turns) z (refl, h.laid)
      (subst (λ (y : Act). IsLaidAct s.p from to y z) (sym same) laid)

  own_outside_by : (turns : Turns) (h : Performed s b number turns x at) → IsOwn s number → (y : Bool) → b ≡ y →
      b ≡ false
  own_outside_by turns h own false e = e
  own_outside_by turns h own true e =
      let its_own : act_at s.p s.loop ≡ Some (perform h.body turns) = ap (act_at s.p) (sym own) ∙ h.its in
      let l = h.fits e h.lo h.hi (perform h.body turns) (performing x turns) its_own (refl, h.laid) in
      absurd (omega (arith, l))

  -- it doesn't stand in the loop
  own_outside : (turns : Turns) (h : Performed s b number turns x at) → IsOwn s number → b ≡ false
  own_outside turns h own = own_outside_by turns h own b refl

  -- ---- the body fits

  abbrev BodyFits : Turns → Type 0
  BodyFits turns = Fits s (in_turns s.loop b number turns) (body_size x)

  in_either : (v : Sender) (h : Performed s b number (times v) x at) (from to : ℕ) (a : Act) (z : LaidAct) →
      act_at s.p s.loop ≡ Some a → IsLaidAct s.p from to a z →
      (b ≡ true) ⊎ ((number == s.loop) ≡ true) → body_size x < act_size z
  in_either v h from to a z its laid (inl e) =
      let l = h.fits e from to a z its laid in
      omega (arith, l)
  in_either v h from to a z its laid (inr e) =
      let same = own_size (times v) h from to a z (eqb-true number s.loop e) its laid in
      omega (arith, same)

  less : (n m : ℕ) → Fits s b (n + m) → Fits s b m
  less n m f = smaller s b m (n + m) (omega arith) f

  pub body_fits : (turns : Turns) → Performed s b number turns x at → BodyFits turns
  body_fits (times v) h =
      λ e from to a z its laid. in_either v h from to a z its laid (or_cases b (number == s.loop) e)
  body_fits once h = less (loop_nodes once) (body_size x) h.fits
  body_fits (until after t) h = less (loop_nodes (until after t)) (body_size x) h.fits
  body_fits (varying after i from by t) h = less (loop_nodes (varying after i from by t)) (body_size x) h.fits

  -- ---- where its nodes stand

  module _ (turns : Turns) (h : Performed s b number turns x at) where
    abbrev inner : Bool
    inner = in_turns s.loop b number turns

    before_alike : Alike s.inside b at (nodes_before turns)
    before_alike =
        low s.inside at (act_size (performing x turns)) (nodes_before turns) (λ j. b)
        (λ j. parted (body_size x) (λ k. in_body s.loop inner x k) (λ k. inner) j) h.follows
        (omega (arith, around turns))

    behind_them : Follows s.inside (at + nodes_before turns) (body_size x + nodes_behind turns)
        (λ j. parted (body_size x) (λ k. in_body s.loop inner x k) (λ k. inner) j)
    behind_them =
        high s.inside at (act_size (performing x turns)) (nodes_before turns) (λ j. b)
        (λ j. parted (body_size x) (λ k. in_body s.loop inner x k) (λ k. inner) j) h.follows
        (body_size x + nodes_behind turns) (omega (arith, around turns))

    pub body_stands : BodyAt s inner (body_at turns at) x
    body_stands =
        subst (λ (i : ℕ). BodyAt s inner i x) (body_place turns at)
        (low s.inside (at + nodes_before turns) (body_size x + nodes_behind turns) (body_size x)
        (λ k. in_body s.loop inner x k) (λ k. inner) behind_them (omega arith))

    behind_alike : Alike s.inside inner (body_at turns at + body_size x) (nodes_behind turns)
    behind_alike =
        subst (λ (i : ℕ). Alike s.inside inner (i + body_size x) (nodes_behind turns)) (body_place turns at)
        (high s.inside (at + nodes_before turns) (body_size x + nodes_behind turns) (body_size x)
        (λ k. in_body s.loop inner x k) (λ k. inner) behind_them (nodes_behind turns) (omega arith))

    first_before : s.inside at ≡ b
    first_before = first_alike s.inside b at (nodes_before turns) (before_some turns) before_alike

    first_behind : 1 ≤ nodes_behind turns → s.inside (body_at turns at + body_size x) ≡ inner
    first_behind l = first_alike s.inside inner (body_at turns at + body_size x) (nodes_behind turns) l behind_alike

    -- the first node of the body
    enters : (to : ℕ) → Below s inner to → Below s inner (first_of_body x (body_at turns at) to)
    enters to k = first_body s inner h.whole h.lo h.hi h.body x (body_at turns at) to h.own h.laid body_stands k

  -- ---- its edges

  module _ (c : Copied) (next : ℕ) (k : Below s b next) where
    -- the test of TIMES enters its own loop
    counted_by : (v : Sender) (h : Performed s b number (times v) x at) (to : ℕ) → s.inside (at + 1) ≡ b →
        Below s (b || number == s.loop) to → (y : Bool) → (number == s.loop) ≡ y →
        IsFine s (at + 1) number (action.True 0) to
    counted_by v h to is below true e =
        let own = eqb-true number s.loop e in
        inr (own, record { body = h.body; sender = v; is = ap (act_at s.p) (sym own) ∙ h.its })
    counted_by v h to is below false e =
        inl (keeps s (at + 1) to b is
        (λ f. sym (or-false b) ∙ ap (λ y. b || y) (sym e) ∙ below f))

    pub before_fine : (turns : Turns) → Performed s b number turns x at →
        AllFine s at (loop_before c number turns x at next)
    before_fine once h =
        let is = first_before once h in
        let to = first_of_body x (at + 1) next in
        ((keeps s at to b is (enters once h next k), tt), tt)
    before_fine (times v) h =
        let is = first_before (times v) h in
        let test_is : s.inside (at + 1) ≡ b = before_alike (times v) h 1 (omega arith) in
        let down : ℕ = augment_at (times v) at x in
        let down_is : s.inside down ≡ (b || number == s.loop) = first_behind (times v) h (omega arith) in
        let to = first_of_body x (at + 2) down in
        let below = enters (times v) h down (at_node s down (b || number == s.loop) down_is) in (
          ((keeps s at (at + 1) b is (at_node s (at + 1) b test_is), λ own. test_is ∙ own_outside (times v) h own), tt),
          ((counted_by v h to test_is below (number == s.loop) refl, (keeps s (at + 1) next b test_is k, tt)), tt),
        )
    before_fine (until false t) h =
        let turns = until false t in
        let alike = before_alike turns h in
        let is = first_before turns h in
        let some = some_tests t h.turns_ in
        let tests = alike_back s.inside b at (1 + tests_in t) 1 (tests_in t) (omega arith) alike in
        let on = at_node s (at + 1) b (first_alike s.inside b (at + 1) (tests_in t) some tests) in (
          (keeps s at (at + 1) b is on, tt),
          logic_fine s b c number true t 0 (at + 1) next (first_of_body x (body_at turns at) (at + 1)) tests k
              (enters turns h (at + 1) on),
        )
    before_fine (until true t) h =
        let turns = until true t in
        let is = first_before turns h in
        let test : ℕ = tests_at turns at x in
        let some = some_tests t h.turns_ in
        let to = first_of_body x (at + 1) test in (
          (keeps s at to b is (enters turns h test (at_node s test b (first_behind turns h (omega (arith, some))))), tt),
          tt,
        )
    before_fine (varying false i from by t) h =
        let turns = varying false i from by t in
        let alike = before_alike turns h in
        let is = first_before turns h in
        let some = some_tests t h.turns_ in
        let tests = alike_back s.inside b at (1 + tests_in t) 1 (tests_in t) (omega arith) alike in
        let on = at_node s (at + 1) b (first_alike s.inside b (at + 1) (tests_in t) some tests) in
        let augment : ℕ = augment_at turns at x in (
          (keeps s at (at + 1) b is on, tt),
          logic_fine s b c number true t 0 (at + 1) next (first_of_body x (at + 1 + tests_in t) augment) tests k
              (enters turns h augment (at_node s augment b (first_behind turns h (omega arith)))),
        )
    before_fine (varying true i from by t) h =
        let turns = varying true i from by t in
        let is = first_before turns h in
        let test : ℕ = tests_at turns at x in
        let to = first_of_body x (at + 1) test in
        ((keeps s at to b is (enters turns h test (at_node s test b (first_behind turns h (omega arith)))), tt), tt)

    -- where the body goes on
    pub body_leads : (turns : Turns) → Performed s b number turns x at →
        Below s (in_turns s.loop b number turns) (body_next turns at x next)
    body_leads once h = k
    body_leads (times v) h =
        at_node s (augment_at (times v) at x) (b || number == s.loop) (first_behind (times v) h (omega arith))
    body_leads (until false t) h =
        let some = some_tests t h.turns_ in
        at_node s (at + 1) b (before_alike (until false t) h 1 (omega (arith, some)))
    body_leads (until true t) h =
        let some = some_tests t h.turns_ in
        at_node s (tests_at (until true t) at x) b (first_behind (until true t) h (omega (arith, some)))
    body_leads (varying false i from by t) h =
        let turns = varying false i from by t in
        at_node s (augment_at turns at x) b (first_behind turns h (omega arith))
    body_leads (varying true i from by t) h =
        let turns = varying true i from by t in
        at_node s (tests_at turns at x) b (first_behind turns h (omega arith))

    pub behind_fine : (turns : Turns) → Performed s b number turns x at →
        AllFine s (body_at turns at + body_size x) (loop_behind c number turns x at next)
    behind_fine once h = tt
    behind_fine (times v) h =
        let test_is : s.inside (at + 1) ≡ b = before_alike (times v) h 1 (omega arith) in
        let down : ℕ = augment_at (times v) at x in
        let down_is : s.inside down ≡ (b || number == s.loop) = first_behind (times v) h (omega arith) in
        let on : Below s (b || number == s.loop) (at + 1) = λ e. ap (λ y. y || number == s.loop) (sym test_is ∙ e) in (
          (
            (
              keeps s down (at + 1) (b || number == s.loop) down_is on,
              λ own. (
                test_is ∙ own_outside (times v) h own,
                down_is ∙ or_right b (number == s.loop) (eq-eqb number s.loop own),
                record { body = h.body; sender = v; is = ap (act_at s.p) (sym own) ∙ h.its },
              ),
            ),
            tt,
          ),
          tt,
        )
    behind_fine (until false t) h = tt
    behind_fine (until true t) h =
        let turns = until true t in
        let test : ℕ = tests_at turns at x in
        let some = some_tests t h.turns_ in
        let on = at_node s test b (first_behind turns h (omega (arith, some))) in
        logic_fine s b c number true t 0 test next (first_of_body x (at + 1) test) (behind_alike turns h) k
        (enters turns h test on)
    behind_fine (varying false i from by t) h =
        let turns = varying false i from by t in
        let some = some_tests t h.turns_ in
        let augment : ℕ = augment_at turns at x in
        let on = at_node s (at + 1) b (before_alike turns h 1 (omega (arith, some))) in
        ((keeps s augment (at + 1) b (first_behind turns h (omega arith)) on, tt), tt)
    behind_fine (varying true i from by t) h =
        let turns = varying true i from by t in
        let test : ℕ = tests_at turns at x in
        let augment : ℕ = augment_at turns at x in
        let alike = behind_alike turns h in
        let augment_is : s.inside augment ≡ b = alike (tests_in t) (omega arith) in
        let to = first_of_body x (at + 1) test in
        let on = enters turns h test (at_node s test b (first_behind turns h (omega arith))) in
        joined s test (tests_in t) (logic_nodes c number true t 0 test next augment)
        (node c number true ((action.Done, to) ∷ []) ∷ [])
        (length-logic c number true t 0 test next augment)
        (logic_fine s b c number true t 0 test next augment
        (alike_front s.inside b test (tests_in t + 1) (tests_in t) (omega arith) alike) k
        (at_node s augment b augment_is))
        ((keeps s augment to b augment_is on, tt), tt)
