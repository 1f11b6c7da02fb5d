-- Where ways stand, how they go on from there, and that of two ways one goes on to the other.
use Rattle.std.proofs.Common.{◌≡◌, ◌≤◌, ◌<◌, ◌⊎◌, inl, inr, ℕ, zero, suc, true, List, Some, None, Ok, Err, refl, sym, ap, subst, ◌∙◌, arith}
use Rattle.std.specs.Prelude.{Contains}
use Rattle.std.proofs.lemmas.Bool.{cases_order}
use Rattle.std.proofs.lemmas.Option.{same_Some}
use Rattle.cob_tree.specs.declared.fault.Kind.{Kind}
use Rattle.cob_program.specs.Act.{Program}
use Rattle.cob_runs.specs.declared.action.Action.{Action}
use Rattle.cob_runs.specs.State.{World}
use Rattle.cob_runs.specs.Effects.{Effect, effect, is_handled}
use Rattle.cob_runs.specs.Runs.{Contents, first_world}
use Rattle.cob_graph.specs.declared.graph.Node.{Node}
use Rattle.cob_graph.specs.declared.graph.Graph.{Graph}
use Rattle.cob_graph.specs.Laid.{one_if}
use Rattle.cob_graph.specs.Graphs.{IsGraph}
use Rattle.cob_graph.specs.Lookup.{node_at, edge}
use Rattle.cob_graph_laws.specs.Ways.{passed, at_first, onward}
use Rattle.cob_graph_laws.specs.Told.{Way}
use Rattle.cob_graph_laws.proofs.Apart.{Exclusive, Rivals}
use Rattle.cob_graph_laws.proofs.Edges.{SameOrRivals, one_edge}

-- a program with its graph, and what its runs begin with
pub record Setting : Type 0 where
  pub p : Program
  pub g : Graph
  pub is : IsGraph p g
  pub contents : Contents
  pub first : List ℕ

-- how many nodes at which a step begins were left, the node, and the world
pub record Spot : Type 0 where
  pub left : ℕ
  pub node : ℕ
  pub world : World

abbrev pub spot : ℕ → ℕ → World → Spot
spot left node world = record { left = left; node = node; world = world }

same_spot : (t u : Spot) → t.left ≡ u.left → t.node ≡ u.node → t.world ≡ u.world → t ≡ u
same_spot t u e f h =
    ap (λ k. spot k t.node t.world) e ∙ ap (λ n. spot u.left n t.world) f ∙ ap (λ w. spot u.left u.node w) h

-- ---- effects of two edges

moved : (r r2 s s2 : Effect) → r ≡ r2 → s ≡ s2 → Exclusive r s → Exclusive r2 s2
moved r r2 s s2 e f h = subst (λ (x : Effect). Exclusive r2 x) f (subst (λ (x : Effect). Exclusive x s) e h)

same_taken : (v u : World) → ◌≡◌ {A = Effect} (Ok (Some v)) (Ok (Some u)) → v ≡ u
same_taken v u e = cc

same_fault : (kind other : Kind) → ◌≡◌ {A = Effect} (Err kind) (Err other) → kind ≡ other
same_fault kind other e = cc

module _ (s : Setting) where
  -- an edge that leaves the node of a spot
  pub record Leaving (t : Spot) : Type 0 where
    pub at : Node
    pub action : Action
    pub to : ℕ
    pub stands : node_at s.g.nodes t.node ≡ Some at
    pub out : Contains s.g.edges (edge t.node action to)

  abbrev pub effect_by : (t : Spot) → Leaving t → Effect
  effect_by t l = effect s.p l.at.statement None t.world l.action

  pub one_node : (t : Spot) (l k : Leaving t) → l.at ≡ k.at
  one_node t l k = same_Some l.at k.at (sym l.stands ∙ k.stands)

  -- two of one node are one edge
  abbrev pub SameEdge : (t : Spot) → Leaving t → Leaving t → Type 0
  SameEdge t l k = (l.action ≡ k.action) × (l.to ≡ k.to)

  same_effect : (t : Spot) (l k : Leaving t) → SameEdge t l k → effect_by t l ≡ effect_by t k
  same_effect t l k e =
      ap (λ (x : Node). effect s.p x.statement None t.world l.action) (one_node t l k)
      ∙ ap (λ (x : Action). effect s.p k.at.statement None t.world x) e.0

  rival_effects : (t : Spot) (l k : Leaving t) → Rivals l.action k.action → Exclusive (effect_by t l) (effect_by t k)
  rival_effects t l k r =
      subst (λ (x : Node). Exclusive (effect_by t l) (effect s.p x.statement None t.world k.action)) (one_node t l k)
      (r s.p l.at.statement None t.world)

  edges_of : (t : Spot) (l k : Leaving t) → SameOrRivals l.action k.action l.to k.to
  edges_of t l k = one_edge s.p s.g s.is t.node l.action k.action l.to k.to l.out k.out

  pub both_taken : (t : Spot) (l k : Leaving t) (v u : World) → effect_by t l ≡ Ok (Some v) →
      effect_by t k ≡ Ok (Some u) → SameEdge t l k
  both_taken t l k v u e f = elim (edges_of t l k) [
    | inl same ↦ same
    | inr r ↦ absurd (moved (effect_by t l) (Ok (Some v)) (effect_by t k) (Ok (Some u)) e f (rival_effects t l k r))
  ]

  pub not_both : (t : Spot) (l k : Leaving t) (v : World) (kind : Kind) → effect_by t l ≡ Ok (Some v) →
      effect_by t k ≡ Err kind → ⊥
  not_both t l k v kind e f = elim (edges_of t l k) [
    | inl same ↦ (let h = sym e ∙ same_effect t l k same ∙ f in cc)
    | inr r ↦ moved (effect_by t l) (Ok (Some v)) (effect_by t k) (Err kind) e f (rival_effects t l k r)
  ]

  pub one_fault : (t : Spot) (l k : Leaving t) (kind other : Kind) → effect_by t l ≡ Err kind →
      effect_by t k ≡ Err other → kind ≡ other
  one_fault t l k kind other e f = elim (edges_of t l k) [
    | inl same ↦ same_fault kind other (sym e ∙ same_effect t l k same ∙ f)
    | inr r ↦ moved (effect_by t l) (Err kind) (effect_by t k) (Err other) e f (rival_effects t l k r)
  ]

  pub one_world : (t : Spot) (l k : Leaving t) (v u : World) → effect_by t l ≡ Ok (Some v) →
      effect_by t k ≡ Ok (Some u) → v ≡ u
  one_world t l k v u e f = same_taken v u (sym e ∙ same_effect t l k (both_taken t l k v u e f) ∙ f)

  pub both_handled : (t : Spot) (l k : Leaving t) (v u : World) → effect_by t l ≡ Ok (Some v) →
      effect_by t k ≡ Ok (Some u) →
      is_handled s.p l.at.statement l.action ≡ is_handled s.p k.at.statement k.action
  both_handled t l k v u e f =
      ap (λ (x : Node). is_handled s.p x.statement l.action) (one_node t l k)
      ∙ ap (λ (x : Action). is_handled s.p k.at.statement x) (both_taken t l k v u e f).0

  -- ---- one edge on

  pub record Onward (t u : Spot) : Type 0 where
    pub by : Leaving t
    pub goes : by.to ≡ u.node
    pub does : effect_by t by ≡ Ok (Some u.world)
    pub handled : is_handled s.p by.at.statement by.action ≡ true
    pub counted : u.left ≡ passed t.left by.at

  one_onward : (t u v : Spot) → Onward t u → Onward t v → u ≡ v
  one_onward t u v a b =
      let same = both_taken t a.by b.by u.world v.world a.does b.does in
      same_spot u v
      (a.counted ∙ ap (λ (x : Node). passed t.left x) (one_node t a.by b.by) ∙ sym b.counted)
      (sym a.goes ∙ same.1 ∙ b.goes)
      (one_world t a.by b.by u.world v.world a.does b.does)

  -- ---- ways by their length

  abbrev pub Long : ℕ → Spot → Type 0
  Long zero t = spot 0 1 (first_world s.p s.contents s.first) ≡ t
  Long (suc i) t = (r : Spot) × Long i r × Onward r t

  pub record Reached (t : Spot) : Type 0 where
    pub steps : ℕ
    pub way : Long steps t

  pub reached : {k n : ℕ} {w : World} → Way s.p s.g s.contents s.first k n w → Reached (spot k n w)
  reached at_first = record { steps = 0; way = refl }
  reached (onward {k = k} {n = n} {w = w} {v = v} x a m way is there does handled) =
      let r : Reached (spot k n w) = reached way in
      let o : Onward (spot k n w) (spot (passed k x) m v) = record {
        by = record { at = x; action = a; to = m; stands = is; out = there };
        goes = refl;
        does = does;
        handled = handled;
        counted = refl;
      } in
      record { steps = suc r.steps; way = (spot k n w, r.way, o) }

  one_spot : (i : ℕ) (t u : Spot) → Long i t → Long i u → t ≡ u
  one_spot zero t u a b = sym a ∙ b
  one_spot (suc i) t u a b =
      let same : a.0 ≡ b.0 = one_spot i a.0 b.0 a.1 b.1 in
      one_onward b.0 t u (subst (λ (r : Spot). Onward r t) same a.2) b.2

  -- a way that goes on from a spot to another
  pub record Further (t u : Spot) : Type 0 where
    pub over : Spot
    pub on : Onward t over
    pub within : over.left ≤ u.left

  last_or_before : (i j : ℕ) → i < suc j → (i ≡ j) ⊎ (i < j)
  last_or_before i j l = elim (cases_order i j) [
    | inl e ↦ inl e
    | inr (inl h) ↦ inr h
    | inr (inr h) ↦ absurd (omega (arith, l, h))
  ]

  further : (i j : ℕ) (t u : Spot) → i < j → Long i t → Long j u → Further t u
  further i zero t u l a b = absurd (omega (arith, l))
  further i (suc j) t u l a b = elim (last_or_before i j l) [
    | inl e ↦ (
        let same : b.0 ≡ t = one_spot j b.0 t b.1 (subst (λ (k : ℕ). Long k t) e a) in
        record { over = u; on = subst (λ (r : Spot). Onward r u) same b.2; within = omega arith }
        )
    | inr h ↦ (
        let f : Further t b.0 = further i j t b.0 h a b.1 in
        let o = b.2 in
        record { over = f.over; on = f.on; within = omega (arith, f.within, o.counted) }
        )
  ]

  pub data Compared (t u : Spot) : Type 0 where
    alike : t ≡ u → Compared t u
    ahead : Further t u → Compared t u
    behind : Further u t → Compared t u

  pub compared : (t u : Spot) → Reached t → Reached u → Compared t u
  compared t u a b = elim (cases_order a.steps b.steps) [
    | inl e ↦ alike (one_spot b.steps t u (subst (λ (k : ℕ). Long k t) e a.way) b.way)
    | inr (inl l) ↦ ahead (further a.steps b.steps t u l a.way b.way)
    | inr (inr l) ↦ behind (further b.steps a.steps u t l b.way a.way)
  ]

  -- ---- where a step begins

  pub record Marked (t : Spot) : Type 0 where
    pub at : Node
    pub stands : node_at s.g.nodes t.node ≡ Some at
    pub begins : at.starts ≡ true

  pub marked_counts : (t : Spot) (m : Marked t) (x : Node) → node_at s.g.nodes t.node ≡ Some x →
      t.left < passed t.left x
  marked_counts t m x e =
      let same : m.at ≡ x = same_Some m.at x (sym m.stands ∙ e) in
      let one : one_if x.starts ≡ 1 = ap one_if (sym (ap (λ (y : Node). y.starts) same) ∙ m.begins) in
      omega (arith, one)

  -- more steps were begun by where a way from it leads
  pub more : (t u : Spot) → Marked t → Further t u → t.left < u.left
  more t u m f =
      let o = f.on in
      let c = o.counted in
      let l = f.within in
      let by = o.by in
      omega (arith, c, l, marked_counts t m by.at by.stands)

  pub same_marked : (t u : Spot) → Reached t → Reached u → Marked t → Marked u → t.left ≡ u.left → t ≡ u
  same_marked t u a b m n e = elim (compared t u a b) [
    | alike h ↦ h
    | ahead f ↦ absurd (let l = more t u m f in omega (arith, e, l))
    | behind f ↦ absurd (let l = more u t n f in omega (arith, e, l))
  ]
