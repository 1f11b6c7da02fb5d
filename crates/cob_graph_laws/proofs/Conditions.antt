-- The nodes of a condition are gone through as the condition is decided.
use Rattle.std.proofs.Common.{◌≡◌, ℕ, suc, ◌+◌, Bool, true, false, not, List, [], ◌∷◌, length, Some, Result, Ok, Err, refl, ap, ◌∙◌, arith}
use Rattle.std.specs.Prelude.{slice_get, if◌then◌else◌}
use Rattle.std.proofs.lemmas.Bool.{false≢true}
use Rattle.cob_tree.specs.declared.fault.Kind.{Kind}
use Rattle.cob_program.specs.Logic.{Test, numbers, texts, member, numeric, always, Logic, all_of, any_of, not_, test, Logics, no_logics, more_logics}
use Rattle.cob_program.specs.Act.{Act}
use Rattle.cob_runs.specs.declared.action.Action.TheVariants as action
use Rattle.cob_runs.specs.Faults.{◌>>=◌}
use Rattle.cob_runs.specs.Deciding.{test_holds, logic_holds, all_hold, some_holds, denied}
use Rattle.cob_runs.specs.State.{World}
use Rattle.cob_runs.specs.Effects.{act_at, edge_taken, taken_if, tests_of, edge_decided, edge_tested}
use Rattle.cob_runs.specs.Effects as effect
use Rattle.cob_graph.specs.Laid.{tests_in, tests_among}
use Rattle.cob_graph.specs.Places.{first_of_logic, first_of_all, first_of_any}
use Rattle.cob_graph.specs.Nodes as node
use Rattle.cob_graph.specs.Nodes.{Copied, test_edges, logic_nodes, any_nodes}
use Rattle.cob_graph.specs.Graphs.{all_nodes}
use Rattle.cob_graph.specs.WellFormed.{Begins, FirstBegins}
use Rattle.cob_graph.specs.Lookup.{node_at}
use Rattle.cob_graph_laws.proofs.Fronts.{Runs, front, back}
use Rattle.cob_graph.proofs.Lengths.{joined, length-logic}
use Rattle.cob_graph_laws.proofs.Relation.{Setting, choice, Way, Meets, Stand}
use Rattle.cob_graph_laws.proofs.Ways.{so_far, IsNode, leaves, meets, by_act}

mutual
  pub length-tests : (t : Logic) → length (tests_of t) ≡ tests_in t
  length-tests (all_of ls) = length-among ls
  length-tests (any_of ls) = length-among ls
  length-tests (not_ x) = length-tests x
  length-tests (test t) = refl

  pub length-among : (ls : Logics) → length (effect.tests_among ls) ≡ tests_among ls
  length-among no_logics = refl
  length-among (more_logics x xs) = joined (tests_of x) (effect.tests_among xs) (tests_in x) (tests_among xs)
      (length-tests x) (length-among xs)

mutual
  pub begins_at : (t : Logic) (at tr fa : ℕ) → Begins t → first_of_logic t at tr fa ≡ at
  begins_at (all_of ls) at tr fa h = all_begins_at ls at tr fa h
  begins_at (any_of ls) at tr fa h = any_begins_at ls at tr fa h
  begins_at (not_ x) at tr fa h = begins_at x at fa tr h
  begins_at (test t) at tr fa h = refl

  all_begins_at : (ls : Logics) (at tr fa : ℕ) → FirstBegins ls → first_of_all ls at tr fa ≡ at
  all_begins_at no_logics at tr fa h = absurd h
  all_begins_at (more_logics x xs) at tr fa h = begins_at x at (first_of_all xs (at + tests_in x) tr fa) fa h

  any_begins_at : (ls : Logics) (at tr fa : ℕ) → FirstBegins ls → first_of_any ls at tr fa ≡ at
  any_begins_at no_logics at tr fa h = absurd h
  any_begins_at (more_logics x xs) at tr fa h = begins_at x at tr (first_of_any xs (at + tests_in x) tr fa) h

module _ (s : Setting) (c : Copied) (number k : ℕ) (w : World) where
  -- behind a condition that is decided so
  abbrev pub Decides : ℕ → ℕ → Result Bool Kind → Type 0
  Decides tr fa (Ok true) = Way s (suc k) tr w
  Decides tr fa (Ok false) = Way s (suc k) fa w
  Decides tr fa (Err kind) = Meets s (suc k) kind number w

  all_on : (r : Result Bool Kind) (m tr fa : ℕ) (later : Result Bool Kind) → Decides m fa r →
      (Way s (suc k) m w → Decides tr fa later) →
      Decides tr fa (r >>= λ b. if b then later else Ok false)
  all_on (Ok true) m tr fa later h f = f h
  all_on (Ok false) m tr fa later h f = h
  all_on (Err kind) m tr fa later h f = h

  any_on : (r : Result Bool Kind) (m tr fa : ℕ) (later : Result Bool Kind) → Decides tr m r →
      (Way s (suc k) m w → Decides tr fa later) →
      Decides tr fa (r >>= λ b. if b then Ok true else later)
  any_on (Ok true) m tr fa later h f = h
  any_on (Ok false) m tr fa later h f = f h
  any_on (Err kind) m tr fa later h f = h

  not_on : (r : Result Bool Kind) (tr fa : ℕ) → Decides fa tr r → Decides tr fa (r >>= denied s.p.layout w.storage)
  not_on (Ok true) tr fa h = h
  not_on (Ok false) tr fa h = h
  not_on (Err kind) tr fa h = h

  -- a node with a way for each answer
  pub two_ways : (b : Bool) (n i tr fa : ℕ) (act : Act) (answer : Result Bool Kind) → Way s (so_far k b) n w →
      IsNode s c number b ((action.True i, tr) ∷ (action.False i, fa) ∷ []) n → act_at s.p number ≡ Some act →
      ((wanted : Bool) → edge_tested s.p number (choice s k) w wanted i act ≡
      (answer >>= λ h. taken_if (if wanted then h else not h) w)) →
      (r : Result Bool Kind) → answer ≡ r → Decides tr fa r
  two_ways b n i tr fa act answer way is its f (Ok true) e =
      leaves s c number k b ((action.True i, tr) ∷ (action.False i, fa) ∷ []) n (action.True i) refl tr w w way is
      (0, omega arith, refl)
      (by_act s number (choice s k) w (action.True i) act (edge_taken w) its
      (f true ∙ ap (λ r. r >>= λ h. taken_if (if true then h else not h) w) e))
  two_ways b n i tr fa act answer way is its f (Ok false) e =
      leaves s c number k b ((action.True i, tr) ∷ (action.False i, fa) ∷ []) n (action.False i) refl fa w w way is
      (1, omega arith, refl)
      (by_act s number (choice s k) w (action.False i) act (edge_taken w) its
      (f false ∙ ap (λ r. r >>= λ h. taken_if (if false then h else not h) w) e))
  two_ways b n i tr fa act answer way is its f (Err kind) e =
      meets s c number k b ((action.True i, tr) ∷ (action.False i, fa) ∷ []) n (action.True i) tr w kind way is
      (0, omega arith, refl)
      (by_act s number (choice s k) w (action.True i) act (Err kind) its
      (f true ∙ ap (λ r. r >>= λ h. taken_if (if true then h else not h) w) e))

  module _ (act : Act) (tests : List Test) (its : act_at s.p number ≡ Some act)
      (f : (wanted : Bool) (i : ℕ) → edge_tested s.p number (choice s k) w wanted i act ≡ edge_decided s.p number (choice s k) w
      wanted (slice_get tests i)) where
    test_decides : (b : Bool) (t : Test) (i at tr fa : ℕ) → slice_get tests i ≡ Some t →
        IsNode s c number b (test_edges c number t i tr fa) at → Way s (so_far k b) at w →
        Decides tr fa (test_holds s.p.layout w.storage t)
    test_decides b always i at tr fa e is way =
        leaves s c number k b ((action.Skip, tr) ∷ []) at action.Skip refl tr w w way is (0, omega arith, refl)
        (by_act s number (choice s k) w action.Skip act (edge_taken w) its refl)
    test_decides b (numbers x r y) i at tr fa e is way =
        two_ways b at i tr fa act (test_holds s.p.layout w.storage (numbers x r y)) way is its
        (λ wanted. f wanted i ∙ ap (edge_decided s.p number (choice s k) w wanted) e) _ refl
    test_decides b (texts x r y) i at tr fa e is way =
        two_ways b at i tr fa act (test_holds s.p.layout w.storage (texts x r y)) way is its
        (λ wanted. f wanted i ∙ ap (edge_decided s.p number (choice s k) w wanted) e) _ refl
    test_decides b (member x ps) i at tr fa e is way =
        two_ways b at i tr fa act (test_holds s.p.layout w.storage (member x ps)) way is its
        (λ wanted. f wanted i ∙ ap (edge_decided s.p number (choice s k) w wanted) e) _ refl
    test_decides b (numeric x) i at tr fa e is way =
        two_ways b at i tr fa act (test_holds s.p.layout w.storage (numeric x)) way is its
        (λ wanted. f wanted i ∙ ap (edge_decided s.p number (choice s k) w wanted) e) _ refl

    mutual
      pub logic_decides : (b : Bool) (t : Logic) (i at tr fa : ℕ) → (b ≡ true → Begins t) →
          Runs (slice_get tests) i (tests_of t) →
          Stand s at (logic_nodes c number b t i at tr fa) → Way s (so_far k b) (first_of_logic t at tr fa) w →
          Decides tr fa (logic_holds s.p.layout w.storage t)
      logic_decides b (all_of ls) i at tr fa h ts ns way = all_decide b ls i at tr fa h ts ns way
      logic_decides b (any_of ls) i at tr fa h ts ns way = any_decide b ls i at tr fa h ts ns way
      logic_decides b (not_ x) i at tr fa h ts ns way = not_on (logic_holds s.p.layout w.storage x) tr fa
          (logic_decides b x i at fa tr h ts ns way)
      logic_decides b (test t) i at tr fa h ts ns way = test_decides b t i at tr fa ts.0 ns.0 way

      all_decide : (b : Bool) (ls : Logics) (i at tr fa : ℕ) → (b ≡ true → FirstBegins ls) →
          Runs (slice_get tests) i (effect.tests_among ls) →
          Stand s at (node.all_nodes c number b ls i at tr fa) → Way s (so_far k b) (first_of_all ls at tr fa) w →
          Decides tr fa (all_hold s.p.layout w.storage ls)
      all_decide true no_logics i at tr fa h ts ns way = absurd (h refl)
      all_decide false no_logics i at tr fa h ts ns way = way
      all_decide b (more_logics x xs) i at tr fa h ts ns way =
          let m = first_of_all xs (at + tests_in x) tr fa in
          let firsts = logic_nodes c number b x i at m fa in
          let others = node.all_nodes c number false xs (i + tests_in x) (at + tests_in x) tr fa in
          all_on (logic_holds s.p.layout w.storage x) m tr fa (all_hold s.p.layout w.storage xs)
          (logic_decides b x i at m fa h (front (slice_get tests) i (tests_of x) (effect.tests_among xs) ts)
          (front (node_at (all_nodes s.p s.is.copies)) at firsts others ns) way)
          (λ onwards. all_decide false xs (i + tests_in x) (at + tests_in x) tr fa (λ e. absurd (false≢true e))
          (back (slice_get tests) i (tests_in x) (tests_of x) (effect.tests_among xs) (length-tests x) ts)
          (back (node_at (all_nodes s.p s.is.copies)) at (tests_in x) firsts others
          (length-logic c number b x i at m fa)
          ns) onwards)

      pub any_decide : (b : Bool) (ls : Logics) (i at tr fa : ℕ) → (b ≡ true → FirstBegins ls) →
          Runs (slice_get tests) i (effect.tests_among ls) →
          Stand s at (any_nodes c number b ls i at tr fa) → Way s (so_far k b) (first_of_any ls at tr fa) w →
          Decides tr fa (some_holds s.p.layout w.storage ls)
      any_decide true no_logics i at tr fa h ts ns way = absurd (h refl)
      any_decide false no_logics i at tr fa h ts ns way = way
      any_decide b (more_logics x xs) i at tr fa h ts ns way =
          let m = first_of_any xs (at + tests_in x) tr fa in
          let firsts = logic_nodes c number b x i at tr m in
          let others = any_nodes c number false xs (i + tests_in x) (at + tests_in x) tr fa in
          any_on (logic_holds s.p.layout w.storage x) m tr fa (some_holds s.p.layout w.storage xs)
          (logic_decides b x i at tr m h (front (slice_get tests) i (tests_of x) (effect.tests_among xs) ts)
          (front (node_at (all_nodes s.p s.is.copies)) at firsts others ns) way)
          (λ onwards. any_decide false xs (i + tests_in x) (at + tests_in x) tr fa (λ e. absurd (false≢true e))
          (back (slice_get tests) i (tests_in x) (tests_of x) (effect.tests_among xs) (length-tests x) ts)
          (back (node_at (all_nodes s.p s.is.copies)) at (tests_in x) firsts others
          (length-logic c number b x i at tr m)
          ns) onwards)
