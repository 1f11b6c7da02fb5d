-- Where the first layer shows that no run comes, none comes in the second.
use Rattle.std.proofs.Common.{◌≡◌, ℕ, ◌==◌, Bool, true, false, ◌&&◌, not, if◌then◌else◌, List, [], ◌∷◌, ℤ, Option, Some, None, refl, sym, ap, ◌∙◌}
use Rattle.std.specs.Option.{option_map_or}
use Rattle.std.proofs.lemmas.Option.{none-some, same_Some}
use Rattle.cob_program.specs.Values.{◌>>=◌}
use Rattle.cob_program.specs.Act.{Act, Program}
use Rattle.cob_runs.specs.declared.action.Action.{Action}
use Rattle.cob_runs.specs.Effects.{act_at}
use Rattle.cob_graph.specs.declared.graph.Edge.{Edge}
use Rattle.cob_graph.specs.declared.graph.Graph.{Graph}
use Rattle.cob_edge_parts.specs.Parts.{Part, parts_of}
use Rattle.interval_domain.specs.Known.{Known}
use Rattle.interval_domain.specs.Elements.{Element}
use Rattle.cell_steps.specs.Seen.{Seen, beginning}
use Rattle.cell_steps.specs.Stores.{handled}
use Rattle.cell_steps.specs.Steps.{step}
use Rattle.cell_steps.specs.Edges.{steps, finished, post_cells}
use Rattle.cell_laws.specs.Layer.{left, edge_cells}
use Rattle.diff_steps.specs.Packs.{Pack}
use Rattle.diff_steps.specs.Moments.{Seen2, with_packs}
use Rattle.diff_steps.specs.Steps.{all_closed, changed, step2}
use Rattle.diff_steps.specs.Edges.{bottoms, or_bottoms, beginning2, steps2, finished2, post_packs}
use Rattle.pack_laws.specs.Layer.{packs_post}

-- ---- parts that are passed

-- what is closed behind a part is beside what is seen there
joined_first : (o : Option Seen) (closed : Seen → Option (List (List ℤ))) (behind : List (List ℤ) → Seen2) (t : Seen × Seen2) →
    (o >>= λ u. closed u >>= λ ms. Some (u, behind ms)) ≡ Some t → o ≡ Some t.0
joined_first None closed behind t e = absurd (none-some t e)
joined_first (Some u) closed behind t e = by_closed (closed u) e
  where
    by_closed : (q : Option (List (List ℤ))) → (q >>= λ ms. Some (u, behind ms)) ≡ Some t → Some u ≡ Some t.0
    by_closed None f = absurd (none-some t f)
    by_closed (Some ms) f = ap (λ (z : Seen × Seen2). Some z.0) (same_Some (u, behind ms) t f)

module _ (p : Program) (packs : List Pack) (a : Act) (x : Action) where
  step_first : (y : Part) (s : Seen) (r : Seen2) (t : Seen × Seen2) → step2 p a x packs y s r ≡ Some t → step p a x y s ≡ Some t.0
  step_first y s r t e =
      joined_first (step p a x y s) (λ u. all_closed p u.cells packs (changed p a x packs y s r).packs)
      (λ ms. with_packs (changed p a x packs y s r) ms) t e

  steps_first : (ys : List Part) (s : Seen) (r : Seen2) (t : Seen × Seen2) → steps2 p packs a x ys s r ≡ Some t → steps p a x ys s ≡ Some t.0
  steps_first [] s r t e = ap (λ (z : Seen × Seen2). Some z.0) (same_Some (s, r) t e)
  steps_first (y ∷ ys) s r t e = by_step (step2 p a x packs y s r) refl (λ u f. steps_first ys u.0 u.1 t f) e
    where
      by_step : (o : Option (Seen × Seen2)) → step2 p a x packs y s r ≡ o →
          ((u : Seen × Seen2) → steps2 p packs a x ys u.0 u.1 ≡ Some t → steps p a x ys u.0 ≡ Some t.0) →
          (o >>= λ u. steps2 p packs a x ys u.0 u.1) ≡ Some t → (step p a x y s >>= λ u. steps p a x ys u) ≡ Some t.0
      by_step None f rest g = absurd (none-some t g)
      by_step (Some u) f rest g = ap (λ (o : Option Seen). o >>= λ v. steps p a x ys v) (step_first y s r u f) ∙ rest u g

  ends_first : (o : Option (Seen × Seen2)) (q : Option Seen) → ((t : Seen × Seen2) → o ≡ Some t → q ≡ Some t.0) → finished p a x q ≡ None →
      finished2 p packs a x o ≡ None
  ends_first None q same e = refl
  ends_first (Some t) q same e =
      by_end (handled p a x && not t.0.any_fail) (sym (ap (λ (o : Option Seen). finished p a x o) (same t refl)) ∙ e)
    where
      by_end : (b : Bool) → (if b then None else Some t.0.cells) ≡ None → (if b then None else Some t.1.packs) ≡ None
      by_end true f = refl
      by_end false f = absurd (none-some t.0.cells (sym f))

-- ---- edges that no run passes

module _ (p : Program) (packs : List Pack) (statement : ℕ) (a : Act) (x : Action) where
  nothing_posted : (cells : List Known) (ms : List (List ℤ)) → post_cells p statement a x cells ≡ None →
      post_packs p packs statement a x (Some cells) ms ≡ bottoms packs
  nothing_posted cells ms e = ap (or_bottoms packs) (by_closed (all_closed p cells packs ms))
    where
      by_closed : (o : Option (List (List ℤ))) →
          (o >>= λ cs. finished2 p packs a x (steps2 p packs a x (parts_of p statement a x) (beginning cells) (beginning2 cs))) ≡ None
      by_closed None = refl
      by_closed (Some cs) =
          ends_first p packs a x (steps2 p packs a x (parts_of p statement a x) (beginning cells) (beginning2 cs))
          (steps p a x (parts_of p statement a x) (beginning cells))
          (λ t f. steps_first p packs a x (parts_of p statement a x) (beginning cells) (beginning2 cs) t f) e

pub none_passes : (p : Program) (g : Graph) (packs : List Pack) (x : Edge) (element : Element) (ms : List (List ℤ)) →
    (element >>= edge_cells p g x) ≡ None → packs_post p g packs x element ms ≡ bottoms packs
none_passes p g packs x None ms e = refl
none_passes p g packs x (Some cells) ms e = by_act (act_at p (left g x)) e
  where
    by_act : (o : Option Act) → option_map_or (λ a. post_cells p (left g x) a x.action cells) o (Some cells) ≡ None →
        option_map_or (λ a. post_packs p packs (left g x) a x.action (Some cells) ms) o ms ≡ bottoms packs
    by_act None f = absurd (none-some cells (sym f))
    by_act (Some a) f = nothing_posted p packs (left g x) a x.action cells ms f
