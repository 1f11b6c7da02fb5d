-- An edge that enters a loop is that of its test, and its counter is set and counted down by edges that leave it.
use Rattle.std.proofs.Common.{◌≡◌, ◌<◌, ◌≤◌, ◌⊎◌, inl, ℕ, ◌+◌, Bool, true, false, List, [], ◌∷◌, ◌++◌, length, Some, refl, sym, subst, ◌∙◌, arith}
use Rattle.std.specs.Prelude.{if◌then◌else◌}
use Rattle.cob_data.specs.declared.layout.Sender.{Sender}
use Rattle.cob_program.specs.declared.act.Opening.{Opening}
use Rattle.cob_program.specs.Logic.{Test, numbers, texts, member, numeric, always, Logic, all_of, any_of, not_, test, Logics, no_logics, more_logics}
use Rattle.cob_program.specs.Act.{times, Act, perform, Body, Program}
use Rattle.cob_runs.specs.declared.action.Action.{Action}
use Rattle.cob_runs.specs.declared.action.Action.TheVariants as action
use Rattle.cob_runs.specs.Acts.{has_status}
use Rattle.cob_runs.specs.Effects.{act_at}
use Rattle.cob_graph.specs.Laid.{LaidAct, tests_in, tests_among, one_if, how_many, act_size}
use Rattle.cob_graph.specs.Places.{first_of_logic, first_of_all, first_of_any}
use Rattle.cob_graph.specs.Nodes as nodes
use Rattle.cob_graph.specs.Nodes.{Noded, Copied, test_edges, logic_nodes, any_nodes, bad_to, behind, open_nodes, close_nodes, read_nodes, write_nodes}
use Rattle.cob_graph.specs.Copies.{IsLaidAct}
use Rattle.cob_graph.proofs.Lengths.{length-logic}
use Rattle.graph_runs.proofs.Inside.{Alike, first_alike, alike_front, alike_back}

-- a program, the number of a statement, and which nodes stand in its loop
pub record Setting : Type 0 where
  pub p : Program
  pub loop : ℕ
  pub inside : ℕ → Bool

module _ (s : Setting) where
  -- the statement is a PERFORM with TIMES
  pub record Counts : Type 0 where
    pub body : Body
    pub sender : Sender
    pub is : act_at s.p s.loop ≡ Some (perform body (times sender))

  -- a node stands inside only where this says so
  abbrev pub Below : Bool → ℕ → Type 0
  Below b m = s.inside m ≡ true → b ≡ true

  -- an edge doesn't enter the loop
  abbrev pub Keeps : ℕ → ℕ → Type 0
  Keeps n m = Below (s.inside n) m

  abbrev pub IsOwn : ℕ → Type 0
  IsOwn number = number ≡ s.loop

  -- an edge from one node to another
  abbrev pub IsFine : ℕ → ℕ → Action → ℕ → Type 0
  IsFine n number (action.True k) m = Keeps n m ⊎ (IsOwn number × Counts)
  IsFine n number action.SetCount m = Keeps n m × (IsOwn number → s.inside m ≡ false)
  IsFine n number action.Down m =
      Keeps n m × (IsOwn number → (s.inside m ≡ false) × (s.inside n ≡ true) × Counts)
  IsFine n number a m = Keeps n m

  abbrev pub AreFine : ℕ → ℕ → List (Action × ℕ) → Type 0
  AreFine n number [] = Unit {0}
  AreFine n number (x ∷ xs) = IsFine n number x.0 x.1 × AreFine n number xs

  -- the edges of nodes with these numbers from one on
  abbrev pub AllFine : ℕ → List Noded → Type 0
  AllFine at [] = Unit {0}
  AllFine at (x ∷ xs) = AreFine at x.statement x.out × AllFine (at + 1) xs

  pub moved : (m n : ℕ) (xs : List Noded) → m ≡ n → AllFine m xs → AllFine n xs
  moved m n xs e h = subst (λ (i : ℕ). AllFine i xs) e h

  pub joined : (at n : ℕ) (xs ys : List Noded) → length xs ≡ n → AllFine at xs → AllFine (at + n) ys →
      AllFine at (xs ++ ys)
  joined at n [] ys e h k = moved (at + n) at ys (omega (arith, e)) k
  joined at n (x ∷ xs) ys e h k =
      (h.0, joined (at + 1) (length xs) xs ys refl h.1 (moved (at + n) (at + 1 + length xs) ys (omega (arith, e)) k))

  -- ---- where nodes stand

  pub keeps : (n m : ℕ) (b : Bool) → s.inside n ≡ b → Below b m → Keeps n m
  keeps n m b is h e = is ∙ h e

  pub at_node : (n : ℕ) (b : Bool) → s.inside n ≡ b → Below b n
  at_node n b is e = sym is ∙ e

  module _ (b : Bool) where
    mutual
      pub first_logic : (t : Logic) (at tr fa : ℕ) → Alike s.inside b at (tests_in t) → Below b tr → Below b fa →
          Below b (first_of_logic t at tr fa)
      first_logic (all_of ls) at tr fa h t f = first_all ls at tr fa h t f
      first_logic (any_of ls) at tr fa h t f = first_any ls at tr fa h t f
      first_logic (not_ x) at tr fa h t f = first_logic x at fa tr h f t
      first_logic (test u) at tr fa h t f = at_node at b (first_alike s.inside b at 1 (omega arith) h)

      pub first_all : (ls : Logics) (at tr fa : ℕ) → Alike s.inside b at (tests_among ls) → Below b tr →
          Below b fa → Below b (first_of_all ls at tr fa)
      first_all no_logics at tr fa h t f = t
      first_all (more_logics x xs) at tr fa h t f =
          first_logic x at (first_of_all xs (at + tests_in x) tr fa) fa
          (alike_front s.inside b at (tests_among (more_logics x xs)) (tests_in x) (omega arith) h)
          (first_all xs (at + tests_in x) tr fa
          (alike_back s.inside b at (tests_among (more_logics x xs)) (tests_in x) (tests_among xs) (omega arith) h) t f)
          f

      pub first_any : (ls : Logics) (at tr fa : ℕ) → Alike s.inside b at (tests_among ls) → Below b tr →
          Below b fa → Below b (first_of_any ls at tr fa)
      first_any no_logics at tr fa h t f = f
      first_any (more_logics x xs) at tr fa h t f =
          first_logic x at tr (first_of_any xs (at + tests_in x) tr fa)
          (alike_front s.inside b at (tests_among (more_logics x xs)) (tests_in x) (omega arith) h) t
          (first_any xs (at + tests_in x) tr fa
          (alike_back s.inside b at (tests_among (more_logics x xs)) (tests_in x) (tests_among xs) (omega arith) h) t f)

    -- ---- nodes of conditions

    module _ (c : Copied) (number : ℕ) where
      test_fine : (t : Test) (k at tr fa : ℕ) → s.inside at ≡ b → Below b tr → Below b fa →
          AreFine at number (test_edges c number t k tr fa)
      test_fine always k at tr fa is t f = (keeps at tr b is t, tt)
      test_fine (numbers x r y) k at tr fa is t f = (inl (keeps at tr b is t), (keeps at fa b is f, tt))
      test_fine (texts x r y) k at tr fa is t f = (inl (keeps at tr b is t), (keeps at fa b is f, tt))
      test_fine (member place ps) k at tr fa is t f = (inl (keeps at tr b is t), (keeps at fa b is f, tt))
      test_fine (numeric place) k at tr fa is t f = (inl (keeps at tr b is t), (keeps at fa b is f, tt))

      mutual
        pub logic_fine : (starts : Bool) (t : Logic) (k at tr fa : ℕ) → Alike s.inside b at (tests_in t) →
            Below b tr → Below b fa → AllFine at (logic_nodes c number starts t k at tr fa)
        logic_fine starts (all_of ls) k at tr fa h t f = all_fine starts ls k at tr fa h t f
        logic_fine starts (any_of ls) k at tr fa h t f = any_fine starts ls k at tr fa h t f
        logic_fine starts (not_ x) k at tr fa h t f = logic_fine starts x k at fa tr h f t
        logic_fine starts (test u) k at tr fa h t f =
            (test_fine u k at tr fa (first_alike s.inside b at 1 (omega arith) h) t f, tt)

        pub all_fine : (starts : Bool) (ls : Logics) (k at tr fa : ℕ) → Alike s.inside b at (tests_among ls) →
            Below b tr → Below b fa → AllFine at (nodes.all_nodes c number starts ls k at tr fa)
        all_fine starts no_logics k at tr fa h t f = tt
        all_fine starts (more_logics x xs) k at tr fa h t f =
            let on = first_of_all xs (at + tests_in x) tr fa in
            let rest = alike_back s.inside b at (tests_among (more_logics x xs)) (tests_in x) (tests_among xs)
            (omega arith) h in
            joined at (tests_in x) (logic_nodes c number starts x k at on fa)
            (nodes.all_nodes c number false xs (k + tests_in x) (at + tests_in x) tr fa)
            (length-logic c number starts x k at on fa)
            (logic_fine starts x k at on fa
            (alike_front s.inside b at (tests_among (more_logics x xs)) (tests_in x) (omega arith) h)
            (first_all xs (at + tests_in x) tr fa rest t f) f)
            (all_fine false xs (k + tests_in x) (at + tests_in x) tr fa rest t f)

        pub any_fine : (starts : Bool) (ls : Logics) (k at tr fa : ℕ) → Alike s.inside b at (tests_among ls) →
            Below b tr → Below b fa → AllFine at (any_nodes c number starts ls k at tr fa)
        any_fine starts no_logics k at tr fa h t f = tt
        any_fine starts (more_logics x xs) k at tr fa h t f =
            let on = first_of_any xs (at + tests_in x) tr fa in
            let rest = alike_back s.inside b at (tests_among (more_logics x xs)) (tests_in x) (tests_among xs)
            (omega arith) h in
            joined at (tests_in x) (logic_nodes c number starts x k at tr on)
            (any_nodes c number false xs (k + tests_in x) (at + tests_in x) tr fa)
            (length-logic c number starts x k at tr on)
            (logic_fine starts x k at tr on
            (alike_front s.inside b at (tests_among (more_logics x xs)) (tests_in x) (omega arith) h) t
            (first_any xs (at + tests_in x) tr fa rest t f))
            (any_fine false xs (k + tests_in x) (at + tests_in x) tr fa rest t f)

  -- ---- statements in a copy

  -- where GO TO and the end lead, seen from a copy that stands in the loop or not
  pub record Leads (c : Copied) (b : Bool) : Type 0 where
    pub paras : (t : ℕ) → Below b (c.para t)
    pub final : Below b c.final

  -- A statement of this size fits into the loop's body: what the loop's own statement does is greater.
  abbrev pub Fits : Bool → ℕ → Type 0
  Fits b n = b ≡ true → (lo hi : ℕ) (a : Act) (x : LaidAct) → act_at s.p s.loop ≡ Some a → IsLaidAct s.p lo hi a x →
      n < act_size x

  pub smaller : (b : Bool) (m n : ℕ) → m ≤ n → Fits b n → Fits b m
  smaller b m n l f e lo hi a x its laid = omega (arith, l, f e lo hi a x its laid)

  module _ (c : Copied) (b : Bool) (leads : Leads c b) (number : ℕ) where
    either : (x : Bool) (m n : ℕ) → Below b m → Below b n → Below b (if x then m else n)
    either true m n h k = h
    either false m n h k = k

    -- the node at which a status ends up that nothing handles
    pub bad_below : (file next : ℕ) → Below b next → Below b (bad_to c number file next)
    bad_below file next k = either (has_status c.layout file) next c.final k leads.final

    behind_below : {A : Type 0} (xs : List A) (at next : ℕ) → Alike s.inside b (at + 1) (how_many xs) → Below b next →
        Below b (behind c number xs at next)
    behind_below [] at next h k = k
    behind_below (x ∷ xs) at next h k = at_node (at + 1) b (first_alike s.inside b (at + 1) (how_many (x ∷ xs)) (omega arith) h)

    pub open_fine : (starts : Bool) (os : List Opening) (k at next : ℕ) → Alike s.inside b at (how_many os) →
        Below b next → AllFine at (open_nodes c number starts os k at next)
    open_fine starts [] k at next h n = tt
    open_fine starts (o ∷ os) k at next h n =
        let is = first_alike s.inside b at (how_many (o ∷ os)) (omega arith) h in
        let rest = alike_back s.inside b at (how_many (o ∷ os)) 1 (how_many os) (omega arith) h in
        let to = behind c number os at next in
        let on = behind_below os at next rest n in (
          (keeps at to b is on, (keeps at (bad_to c number o.file to) b is (bad_below o.file to on), tt)),
          open_fine false os (k + 1) (at + 1) next rest n,
        )

    pub close_fine : (starts : Bool) (fs : List ℕ) (k at next : ℕ) → Alike s.inside b at (how_many fs) →
        Below b next → AllFine at (close_nodes c number starts fs k at next)
    close_fine starts [] k at next h n = tt
    close_fine starts (f ∷ fs) k at next h n =
        let is = first_alike s.inside b at (how_many (f ∷ fs)) (omega arith) h in
        let rest = alike_back s.inside b at (how_many (f ∷ fs)) 1 (how_many fs) (omega arith) h in
        let to = behind c number fs at next in
        let on = behind_below fs at next rest n in (
          (keeps at to b is on, (keeps at (bad_to c number f to) b is (bad_below f to on), tt)),
          close_fine false fs (k + 1) (at + 1) next rest n,
        )

    pub read_fine : (file : ℕ) (into : Bool) (at end fine next : ℕ) → Alike s.inside b at (1 + one_if into) →
        Below b end → Below b fine → Below b next → AllFine at (read_nodes c number file into at end fine next)
    read_fine file false at end fine next h e f n =
        let is = first_alike s.inside b at (1 + one_if false) (omega arith) h in
        let bad = keeps at (bad_to c number file next) b is (bad_below file next n) in
        ((keeps at fine b is f, (keeps at end b is e, (bad, tt))), tt)
    read_fine file true at end fine next h e f n =
        let is = first_alike s.inside b at (1 + one_if true) (omega arith) h in
        let move_is : s.inside (at + 1) ≡ b = h 1 (omega arith) in
        let bad = keeps at (bad_to c number file next) b is (bad_below file next n) in (
          (keeps at (at + 1) b is (at_node (at + 1) b move_is), (keeps at end b is e, (bad, tt))),
          ((keeps (at + 1) fine b move_is f, tt), tt),
        )

    pub write_fine : (file : ℕ) (from : Bool) (at next : ℕ) → Alike s.inside b at (1 + one_if from) → Below b next →
        AllFine at (write_nodes c number file from at next)
    write_fine file false at next h n =
        let is = first_alike s.inside b at (1 + one_if false) (omega arith) h in
        ((keeps at next b is n, (keeps at (bad_to c number file next) b is (bad_below file next n), tt)), tt)
    write_fine file true at next h n =
        let is = first_alike s.inside b at (1 + one_if true) (omega arith) h in
        let call_is : s.inside (at + 1) ≡ b = h 1 (omega arith) in
        let bad = keeps (at + 1) (bad_to c number file next) b call_is (bad_below file next n) in (
          (keeps at (at + 1) b is (at_node (at + 1) b call_is), tt),
          ((keeps (at + 1) next b call_is n, (bad, tt)), tt),
        )
