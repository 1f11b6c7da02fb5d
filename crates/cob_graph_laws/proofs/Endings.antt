-- Where runs are over: ways go no further there, and there is one such spot.
use Rattle.std.proofs.Common.{◌≡◌, ◌≤◌, ◌<◌, ◌⊎◌, inl, inr, ℕ, false, Option, Some, None, Ok, Err, refl, sym, ap, subst, ◌∙◌, arith}
use Rattle.std.specs.Prelude.{Contains}
use Rattle.std.proofs.lemmas.Bool.{false≢true}
use Rattle.std.proofs.lemmas.Option.{same_Some}
use Rattle.cob_tree.specs.declared.fault.Kind.{Kind}
use Rattle.cob_runs.specs.declared.action.Action.{Action}
use Rattle.cob_runs.specs.declared.outcome.Outcome.{Outcome}
use Rattle.cob_runs.specs.declared.outcome.Outcome.TheVariants.{Ended, IoStop, Fault}
use Rattle.cob_runs.specs.State.{World}
use Rattle.cob_runs.specs.Effects.{status, is_handled}
use Rattle.cob_graph.specs.declared.graph.Node.{Node}
use Rattle.cob_graph.specs.Lookup.{edge, node_at, final_in}
use Rattle.cob_graph_laws.specs.Ways.{passed}
use Rattle.cob_graph_laws.proofs.Edges.{no_edge, no_start}
use Rattle.cob_graph_laws.proofs.Spots.{Setting, Spot, Leaving, SameEdge, effect_by, one_node, both_taken, not_both, one_fault, one_world, both_handled, Onward, Reached, Further, alike, ahead, behind, compared, Marked, marked_counts, more}

-- after how many steps, how, and with which world
pub record End : Type 0 where
  pub count : ℕ
  pub outcome : Outcome
  pub world : World

abbrev pub end_with : ℕ → Outcome → World → End
end_with count outcome world = record { count = count; outcome = outcome; world = world }

module _ (s : Setting) where
  abbrev status_by : (t : Spot) → Leaving s t → Option ℕ
  status_by t l = status s.p l.at.statement None t.world l.action

  pub data Over (t : Spot) : Type 0 where
    at_end : t.node ≡ final_in s.g → Over t
    by_fault : (l : Leaving s t) (kind : Kind) → effect_by s t l ≡ Err kind → Over t
    by_status : (l : Leaving s t) (v : World) (met : ℕ) → effect_by s t l ≡ Ok (Some v) → status_by t l ≡ Some met
        → is_handled s.p l.at.statement l.action ≡ false → Over t

  abbrev pub end : (t : Spot) → Over t → End
  end t (at_end e) = end_with t.left Ended t.world
  end t (by_fault l kind e) = end_with (passed t.left l.at) (Fault kind l.at.statement) t.world
  end t (by_status l v met e f h) = end_with (passed t.left l.at) (IoStop met l.at.statement) v

  not_final : (t : Spot) → Leaving s t → t.node ≡ final_in s.g → ⊥
  not_final t l e =
      no_edge s.p s.g s.is l.action l.to
      (subst (λ (n : ℕ). Contains s.g.edges (edge n l.action l.to)) e l.out)

  -- ---- one end

  same_faults : (t : Spot) (l k : Leaving s t) (kind other : Kind) → kind ≡ other → l.at ≡ k.at →
      end_with (passed t.left l.at) (Fault kind l.at.statement) t.world
      ≡ end_with (passed t.left k.at) (Fault other k.at.statement) t.world
  same_faults t l k kind other e f =
      ap (λ (x : Kind). end_with (passed t.left l.at) (Fault x l.at.statement) t.world) e
      ∙ ap (λ (x : Node). end_with (passed t.left x) (Fault other x.statement) t.world) f

  same_stops : (t : Spot) (l k : Leaving s t) (met other : ℕ) (v u : World) → met ≡ other → l.at ≡ k.at → v ≡ u →
      end_with (passed t.left l.at) (IoStop met l.at.statement) v
      ≡ end_with (passed t.left k.at) (IoStop other k.at.statement) u
  same_stops t l k met other v u e f h =
      ap (λ (x : ℕ). end_with (passed t.left l.at) (IoStop x l.at.statement) v) e
      ∙ ap (λ (x : Node). end_with (passed t.left x) (IoStop other x.statement) v) f
      ∙ ap (λ (x : World). end_with (passed t.left k.at) (IoStop other k.at.statement) x) h

  one_status : (t : Spot) (l k : Leaving s t) (met other : ℕ) → SameEdge s t l k →
      status_by t l ≡ Some met → status_by t k ≡ Some other → met ≡ other
  one_status t l k met other same e f = same_Some met other
      (sym e ∙ ap (λ (x : Node). status s.p x.statement None t.world l.action) (one_node s t l k)
      ∙ ap (λ (x : Action). status s.p k.at.statement None t.world x) same.0 ∙ f)

  one_end : (t : Spot) (x y : Over t) → end t x ≡ end t y
  one_end t (at_end e) (at_end f) = refl
  one_end t (at_end e) (by_fault l kind f) = absurd (not_final t l e)
  one_end t (at_end e) (by_status l v met f g h) = absurd (not_final t l e)
  one_end t (by_fault l kind e) (at_end f) = absurd (not_final t l f)
  one_end t (by_status l v met e g h) (at_end f) = absurd (not_final t l f)
  one_end t (by_fault l kind e) (by_fault k other f) =
      same_faults t l k kind other (one_fault s t l k kind other e f) (one_node s t l k)
  one_end t (by_fault l kind e) (by_status k v met f g h) = absurd (not_both s t k l v kind f e)
  one_end t (by_status l v met e g h) (by_fault k kind f) = absurd (not_both s t l k v kind e f)
  one_end t (by_status l v met e g h) (by_status k u other f i j) =
      same_stops t l k met other v u (one_status t l k met other (both_taken s t l k v u e f) g i) (one_node s t l k)
      (one_world s t l k v u e f)

  pub same_end : (t u : Spot) (x : Over t) (y : Over u) → t ≡ u → end t x ≡ end u y
  same_end t u x y e = subst (λ (r : Spot). (z : Over r) → end t x ≡ end r z) e (λ z. one_end t x z) y

  -- ---- no way goes on

  stuck : (t u : Spot) → Over t → Onward s t u → ⊥
  stuck t u (at_end e) o = not_final t o.by e
  stuck t u (by_fault l kind e) o = not_both s t o.by l u.world kind o.does e
  stuck t u (by_status l v met e f h) o =
      false≢true (sym h ∙ both_handled s t l o.by v u.world e o.does ∙ o.handled)

  no_further : (t u : Spot) → Over t → Further s t u → ⊥
  no_further t u x f = stuck t f.over x f.on

  pub both_over : (t u : Spot) → Reached s t → Reached s u → Over t → Over u → t ≡ u
  both_over t u a b x y = elim (compared s t u a b) [
    | alike e ↦ e
    | ahead f ↦ absurd (no_further t u x f)
    | behind f ↦ absurd (no_further u t y f)
  ]

  pub over_past : (t u : Spot) → Reached s t → Reached s u → Over t → Marked s u → (t ≡ u) ⊎ (u.left < t.left)
  over_past t u a b x m = elim (compared s t u a b) [
    | alike e ↦ inl e
    | ahead f ↦ absurd (no_further t u x f)
    | behind f ↦ inr (more s u t m f)
  ]

  -- ---- counts

  pub low : (t : Spot) (x : Over t) → t.left ≤ (end t x).count
  low t (at_end e) = omega arith
  low t (by_fault l kind e) = omega arith
  low t (by_status l v met e f h) = omega arith

  pub above : (t : Spot) (x : Over t) → Marked s t → t.left < (end t x).count
  above t (at_end e) m = absurd (no_start s.p s.g s.is m.at
      (subst (λ (n : ℕ). node_at s.g.nodes n ≡ Some m.at) e m.stands) m.begins)
  above t (by_fault l kind e) m = marked_counts s t m l.at l.stands
  above t (by_status l v met e f h) m = marked_counts s t m l.at l.stands
