-- What the first layer clears along an edge both layers do.
use Rattle.std.proofs.Common.{◌≡◌, true, List, [], ◌∷◌, ℤ, Option, Some, None, refl, sym, ap, ◌∙◌}
use Rattle.std.specs.Option.{option_map_or}
use Rattle.std.proofs.lemmas.Bool.{and_parts}
use Rattle.cob_tree.specs.declared.fault.Kind.{Kind}
use Rattle.cob_tree.specs.Kinds.{has, kinds_of, every_kind}
use Rattle.cob_tree.proofs.KindLaws.{has_kinds_of}
use Rattle.cob_program.specs.Values.{◌>>=◌}
use Rattle.cob_program.specs.Act.{Act, Program}
use Rattle.cob_runs.specs.declared.action.Action.{Action}
use Rattle.cob_runs.specs.Effects.{act_at}
use Rattle.cob_graph.specs.declared.graph.Edge.{Edge}
use Rattle.cob_graph.specs.declared.graph.Graph.{Graph}
use Rattle.cob_edge_parts.specs.Parts.{Part, parts_of}
use Rattle.interval_domain.specs.Known.{Known}
use Rattle.cell_steps.specs.Seen.{Seen, beginning}
use Rattle.cell_steps.specs.Steps.{step}
use Rattle.cell_steps.specs.Clearing.{clears_part, clears_parts}
use Rattle.cell_steps.specs.Edges.{clears_edge}
use Rattle.cell_laws.proofs.PartsDone.{and_true}
use Rattle.cell_laws.specs.Layer.{edge_clears, left}
use Rattle.cell_layer.proofs.KindSets.{same_tests}
use Rattle.diff_steps.specs.Packs.{Pack}
use Rattle.diff_steps.specs.Moments.{Seen2, with_packs}
use Rattle.diff_steps.specs.Steps.{all_closed, changed, step2}
use Rattle.diff_steps.specs.Edges.{beginning2}
use Rattle.diff_steps.specs.Clearing.{clears_edge2, clears_part2, clears_parts2}
use Rattle.pack_laws.specs.Layer.{edge_clears2}
use Rattle.diff_layer.proofs.Cleared.{cleared_too}

module _ (p : Program) (packs : List Pack) (fault : Kind) where
  module _ (a : Act) (x : Action) where
    -- the rest of the parts, where a run passes the first
    rest_too : (ys : List Part) (y : Part) (s : Seen) (r : Seen2)
        → ((t : Seen) (q : Seen2) → clears_parts p a x ys t fault ≡ true → clears_parts2 p packs a x ys t q fault ≡ true)
        → option_map_or (λ t. clears_parts p a x ys t fault) (step p a x y s) true ≡ true
        → option_map_or (λ (u : Seen × Seen2). clears_parts2 p packs a x ys u.0 u.1 fault) (step2 p a x packs y s r) true ≡ true
    rest_too ys y s r more = by_cells (step p a x y s)
      where
        next : Seen2
        next = changed p a x packs y s r

        by_packs : (t : Seen) → clears_parts p a x ys t fault ≡ true → (o : Option (List (List ℤ)))
            → option_map_or (λ (u : Seen × Seen2). clears_parts2 p packs a x ys u.0 u.1 fault) (o >>= λ ms. Some (t, with_packs next ms)) true ≡ true
        by_packs t e None = refl
        by_packs t e (Some ms) = more t (with_packs next ms) e

        by_cells : (o : Option Seen) → option_map_or (λ t. clears_parts p a x ys t fault) o true ≡ true
            → option_map_or (λ (u : Seen × Seen2). clears_parts2 p packs a x ys u.0 u.1 fault)
            (o >>= λ t. all_closed p t.cells packs next.packs >>= λ ms. Some (t, with_packs next ms)) true ≡ true
        by_cells None e = refl
        by_cells (Some t) e = by_packs t e (all_closed p t.cells packs next.packs)

    parts_too : (ys : List Part) (s : Seen) (r : Seen2) → clears_parts p a x ys s fault ≡ true → clears_parts2 p packs a x ys s r fault ≡ true
    parts_too [] s r e = refl
    parts_too (y ∷ ys) s r e =
        let two = and_parts (clears_part p a x y s fault) (option_map_or (λ t. clears_parts p a x ys t fault) (step p a x y s) true) e in
        and_true (clears_part2 p packs a x y s r fault) (option_map_or (λ (u : Seen × Seen2). clears_parts2 p packs a x ys u.0 u.1 fault) (step2 p a x packs y s r) true)
        (cleared_too p packs a x s r.wrote r.packs y fault two.0)
        (rest_too ys y s r (λ t q h. parts_too ys t q h) two.1)

  module _ (g : Graph) (cells : List Known) (ms : List (List ℤ)) (edge : Edge) where
    act_too : (a : Act) → clears_edge p (left g edge) a edge.action cells fault ≡ true → clears_edge2 p packs (left g edge) a edge.action cells ms fault ≡ true
    act_too a e = by_packs (all_closed p cells packs ms)
      where
        by_packs : (o : Option (List (List ℤ)))
            → option_map_or (λ cs. clears_parts2 p packs a edge.action (parts_of p (left g edge) a edge.action) (beginning cells) (beginning2 cs) fault) o true ≡ true
        by_packs None = refl
        by_packs (Some cs) = parts_too a edge.action (parts_of p (left g edge) a edge.action) (beginning cells) (beginning2 cs) e

    pub cleared_by_cells : edge_clears p g fault cells edge ≡ true → edge_clears2 p g packs fault cells ms edge ≡ true
    cleared_by_cells = by_act (act_at p (left g edge))
      where
        by_act : (o : Option Act) → option_map_or (λ a. clears_edge p (left g edge) a edge.action cells fault) o true ≡ true
            → option_map_or (λ a. clears_edge2 p packs (left g edge) a edge.action cells ms fault) o true ≡ true
        by_act None e = refl
        by_act (Some a) e = act_too a e

-- where the first layer clears all kinds along an edge, so do both
pub all_cleared_by_cells : (p : Program) (packs : List Pack) (g : Graph) (cells : List Known) (ms : List (List ℤ)) (edge : Edge)
    → kinds_of (λ kind. edge_clears p g kind cells edge) ≡ every_kind → every_kind ≡ kinds_of (λ kind. edge_clears2 p g packs kind cells ms edge)
all_cleared_by_cells p packs g cells ms edge e =
    same_tests (λ kind. true) (λ kind. edge_clears2 p g packs kind cells ms edge)
    (λ kind. sym (cleared_by_cells p packs kind g cells ms edge
    (sym (has_kinds_of (λ k. edge_clears p g k cells edge) kind) ∙ (ap (λ s. has s kind) e ∙ has_kinds_of (λ k. true) kind))))
