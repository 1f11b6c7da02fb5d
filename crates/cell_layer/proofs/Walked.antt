-- The parts of an edge, one after another.
use Rattle.std.proofs.Common.{◌≡◌, ℕ, ◌+◌, ◌<◌, true, ◌&&◌, List, ◌∷◌, drop, map, length, get_or, Option, Some, sym, ap, subst, ◌∙◌}
use Rattle.std.specs.List.{AllByRecursion}
use Rattle.std.specs.Option.{option_map_or}
use Rattle.std.proofs.lemmas.List.{drop_more}
use Rattle.cob_tree.specs.declared.fault.Kind.{Kind}
use Rattle.cob_tree.specs.declared.kinds.Kinds.{Kinds}
use Rattle.cob_tree.specs.Kinds.{kinds_of, both}
use Rattle.cob_program.specs.Act.{Act, Program}
use Rattle.cob_runs.specs.declared.action.Action.{Action}
use Rattle.cob_edge_parts.specs.Parts.{Part}
use Rattle.edge_parts.specs.declared.part.EdgePart.{EdgePart}
use Rattle.edge_parts.specs.PartView.{plain_part}
use Rattle.cell_steps.specs.Seen.{Seen}
use Rattle.cell_layer.specs.Walks.{step_small, clears_small, clears_all_small}
use Rattle.cell_layer.proofs.KindSets.{both_then}

-- ---- what is left of a list of parts

abbrev pub left_of : List EdgePart → ℕ → List Part
left_of ps i = map plain_part (drop i ps)

pub next_left : (ps : List EdgePart) (i : ℕ) (y : EdgePart) → i < length ps → y ≡ get_or ps i y →
    left_of ps i ≡ plain_part y ∷ left_of ps (i + 1)
next_left ps i y within is =
    ap (map plain_part) (drop_more ps i y within ∙ ap (λ (z : EdgePart). z ∷ drop (i + 1) ps) (sym is))

pub holds_next : (P : Part → Type 0) (ps : List EdgePart) (i : ℕ) (y : EdgePart) → i < length ps → y ≡ get_or ps i y →
    AllByRecursion P (left_of ps i) → P (plain_part y) × AllByRecursion P (left_of ps (i + 1))
holds_next P ps i y within is all = subst (AllByRecursion P) (next_left ps i y within is) all

-- ---- what is cleared, where a part is passed

module _ (p : Program) (a : Act) (x : Action) (y : Part) (ys all : List Part) (here : all ≡ y ∷ ys) (s : Seen) where
  clears_first : (o : Option Seen) (kind : Kind) → step_small p a x y s ≡ o →
      (clears_small p a x y s kind && option_map_or (λ t. clears_all_small p a x ys t kind) o true) ≡ clears_all_small p a x all s kind
  clears_first o kind e =
      ap (λ (r : Option Seen). clears_small p a x y s kind && option_map_or (λ t. clears_all_small p a x ys t kind) r true) (sym e)
      ∙ ap (λ zs. clears_all_small p a x zs s kind) (sym here)

  pub cleared_passed : (cleared : Kinds) (t : Seen) → step_small p a x y s ≡ Some t →
      both (both cleared (kinds_of (clears_small p a x y s))) (kinds_of (clears_all_small p a x ys t))
      ≡ both cleared (kinds_of (clears_all_small p a x all s))
  cleared_passed cleared t e =
      both_then cleared (clears_small p a x y s) (clears_all_small p a x ys t) (clears_all_small p a x all s) (λ kind. clears_first (Some t) kind e)
