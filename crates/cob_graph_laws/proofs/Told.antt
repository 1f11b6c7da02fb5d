-- What a way tells of the run, from what each run shows.
use Rattle.std.proofs.Common.{◌≡◌, ◌≤◌, ◌<◌, inl, inr, ℕ, [], None, refl, sym, ap, subst, ◌∙◌, arith}
use Rattle.std.proofs.lemmas.Option.{same_Some}
use Rattle.cob_runs.specs.declared.outcome.Outcome.{Outcome}
use Rattle.cob_runs.specs.declared.outcome.Outcome.TheVariants.{Going, Ended, IoStop, Fault}
use Rattle.cob_runs.specs.State.{State}
use Rattle.cob_runs.specs.Effects.{effect, status, is_handled}
use Rattle.cob_graph.specs.declared.graph.Node.{Node}
use Rattle.cob_graph_laws.specs.Ways.{IsSimulated, RunsAreWays, ShowsBy, next_statement}
use Rattle.cob_graph.specs.Lookup.{node_at, final_in}
use Rattle.cob_graph_laws.specs.Told.{after, IsOverAfter, GoesOnAfter, WaysTell, WaysTellOfRuns}
use Rattle.cob_graph_laws.proofs.Spots.{Setting, Spot, spot, Leaving, Reached, reached, Marked, same_marked}
use Rattle.cob_graph_laws.proofs.Endings.{Over, at_end, by_fault, by_status, End, end, same_end, both_over, over_past, low, above}

module _ (s : Setting) where
  abbrev state : ℕ → State
  state n = after s.p s.g s.contents s.first n

  -- what a state after so many steps shows
  data Shown (n : ℕ) (at : State) : Type 0 where
    goes : at.outcome ≡ Going → (t : Spot) → Reached s t → (m : Marked s t) → t.left ≡ n → t.world ≡ at.world
        → m.at.statement ≡ next_statement s.p at.control → Shown n at
    over : (t : Spot) → Reached s t → (x : Over s t) → at.outcome ≡ (end s t x).outcome → at.world ≡ (end s t x).world
        → (end s t x).count ≤ n → Shown n at

  shown : (n : ℕ) (o : Outcome) (at : State) → at.outcome ≡ o → ShowsBy s.p s.g s.contents s.first [] o n at →
      Shown n at
  shown n Going at e h =
      goes e (spot n h.node at.world) (reached s h.way)
      (record { at = h.at; stands = h.stands; begins = h.begins }) refl refl h.its
  shown n Ended at e h = over (spot h.left _ at.world) (reached s h.way) (at_end refl) e refl h.within
  shown n (IoStop met statement) at e h =
      let t = spot h.left h.node h.before in
      let l : Leaving s t = record { at = h.at; action = h.action; to = _; stands = h.stands; out = h.out } in
      let i = h.its in
      over t (reached s h.way)
      (by_status l at.world met
      (ap (λ (x : ℕ). effect s.p x None h.before h.action) i ∙ h.leads)
      (ap (λ (x : ℕ). status s.p x None h.before h.action) i ∙ h.meets)
      (ap (λ (x : ℕ). is_handled s.p x h.action) i ∙ h.unhandled))
      (e ∙ ap (λ (x : ℕ). IoStop met x) (sym i)) refl h.within
  shown n (Fault kind statement) at e h =
      let t = spot h.left h.node at.world in
      let l : Leaving s t = record { at = h.at; action = h.action; to = h.to; stands = h.stands; out = h.out } in
      let i = h.its in
      over t (reached s h.way) (by_fault l kind (ap (λ (x : ℕ). effect s.p x None at.world h.action) i ∙ h.meets))
      (e ∙ ap (λ (x : ℕ). Fault kind x) (sym i)) refl h.within

  moved_mark : (t u : Spot) → t ≡ u → Marked s u → Marked s t
  moved_mark t u e m = subst (λ (r : Spot). Marked s r) (sym e) m

  module _ (simulated : IsSimulated s.p s.g) where
    shows : (n : ℕ) → Shown n (state n)
    shows n = shown n (state n).outcome (state n) refl (simulated s.contents s.first [] n)

    -- ---- where the run is over

    module _ (t : Spot) (a : Reached s t) (x : Over s t) where
      abbrev its : End
      its = end s t x

      -- a step that begins later than the end
      not_going : (u : Spot) → Reached s u → Marked s u → u.left ≡ its.count → ⊥
      not_going u b m e = elim (over_past s t u a b x m) [
        | inl same ↦ (
            let l = above s t x (moved_mark t u same m) in
            let left = ap (λ (r : Spot). r.left) same in
            omega (arith, e, l, left)
            )
        | inr l ↦ omega (arith, e, l, low s t x)
      ]

      same : (u : Spot) → Reached s u → (y : Over s u) → its ≡ end s u y
      same u b y = same_end s t u x y (both_over s t u a b x y)

      ends_there : Shown its.count (state its.count) →
          ((state its.count).outcome ≡ its.outcome) × ((state its.count).world ≡ its.world)
      ends_there (goes e u b m left w i) = absurd (not_going u b m left)
      ends_there (over u b y e w l) =
          let one = sym (same u b y) in (e ∙ ap (λ (z : End). z.outcome) one, w ∙ ap (λ (z : End). z.world) one)

      goes_before : (m : ℕ) → m < its.count → Shown m (state m) → (state m).outcome ≡ Going
      goes_before m l (goes e u b k left w i) = e
      goes_before m l (over u b y e w k) =
          let one = ap (λ (z : End). z.count) (same u b y) in absurd (omega (arith, one, l, k))

      pub over_after : IsOverAfter s.p s.g s.contents s.first its.count its.outcome its.world
      over_after =
          let there = ends_there (shows its.count) in
          record { outcome = there.0; world = there.1; before = λ m l. goes_before m l (shows m) }

    -- ---- where it goes on

    module _ (t : Spot) (a : Reached s t) (m : Marked s t) where
      going_on : Shown t.left (state t.left) → GoesOnAfter s.p s.g s.contents s.first t.left m.at.statement t.world
      going_on (goes e u b k left w i) =
          let same = same_marked s t u a b m k (sym left) in
          let stands = ap (λ (r : Spot). node_at s.g.nodes r.node) same in
          let one : k.at ≡ m.at = same_Some k.at m.at (sym k.stands ∙ sym stands ∙ m.stands) in
          record {
            outcome = e;
            world = sym w ∙ sym (ap (λ (r : Spot). r.world) same);
            next = sym i ∙ ap (λ (y : Node). y.statement) one;
          }
      going_on (over u b y e w l) = absurd (elim (over_past s u t b a y m) [
        | inl same ↦ (
            let k = above s u y (moved_mark u t same m) in
            let left = ap (λ (r : Spot). r.left) same in
            omega (arith, k, l, left)
            )
        | inr k ↦ omega (arith, k, l, low s u y)
      ])

pub ways_tell : (s : Setting) → IsSimulated s.p s.g → WaysTell s.p s.g s.contents s.first
ways_tell s simulated = record {
  ends = λ k w way. over_after s simulated (spot k (final_in s.g) w) (reached s way) (at_end refl);
  faults = λ k n w x a m kind way is there e. over_after s simulated (spot k n w) (reached s way)
      (by_fault (record { at = x; action = a; to = m; stands = is; out = there }) kind e);
  stops = λ k n w v x a m met way is there e f h. over_after s simulated (spot k n w) (reached s way)
      (by_status (record { at = x; action = a; to = m; stands = is; out = there }) v met e f h);
  goes_on = λ k n w x way is begins. going_on s simulated (spot k n w) (reached s way)
      (record { at = x; stands = is; begins = begins }) (shows s simulated k);
}

pub telling : RunsAreWays → WaysTellOfRuns
telling simulation p g whole is contents first =
    ways_tell (record { p = p; g = g; is = is; contents = contents; first = first }) (simulation p g whole is)
