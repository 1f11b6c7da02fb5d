-- The parts of an edge, one after another, in a list that is made once.
use Rattle.std.proofs.Common.{◌≡◌, ◌≤◌, ◌<◌, ◌+◌, ℕ, zero, suc, Bool, true, false, ◌&&◌, List, [], ◌∷◌, map, drop, length, get_or, Option, Some, None, refl, sym, ap, subst, ◌∙◌}
use Rattle.std.specs.List.{AllByRecursion}
use Rattle.std.specs.Option.{option_map_or}
use Rattle.std.proofs.lemmas.List.{drop_all}
use Rattle.std.proofs.Math.Logic.{∥∥₁_elim}
use Rattle.cob_tree.specs.declared.fault.Kind.{Kind}
use Rattle.cob_program.specs.Act.{Act, Program}
use Rattle.cob_program.proofs.Loops.{item_step}
use Rattle.cob_program.specs.Values.{◌>>=◌}
use Rattle.cob_runs.specs.declared.action.Action.{Action}
use Rattle.cob_edge_parts.specs.Parts.{Part}
use Rattle.edge_parts.specs.PartView.{plain_part}
use Rattle.edge_parts.specs.declared.part.EdgePart.{EdgePart}
use Rattle.cell_steps.specs.Seen.{Seen}
use Rattle.diff_steps.specs.Packs.{Pack}
use Rattle.diff_steps.specs.Moments.{Seen2}
use Rattle.diff_steps.specs.Clearing.{clears_part2}
use Rattle.diff_layer.specs.Walks.{step2_small, steps2_small, clears_all2}

-- ---- the list

-- the parts from a place on
abbrev pub left : List EdgePart → ℕ → List Part
left parts i = map plain_part (drop i parts)

pub left_more : (parts : List EdgePart) (i : ℕ) (part : EdgePart) → i < length parts → part ≡ get_or parts i part → left parts i ≡ plain_part part ∷ left parts (i + 1)
left_more parts i part within is = ap (map plain_part) (item_step parts i part within is)

pub left_none : (parts : List EdgePart) (i : ℕ) → length parts ≤ i → left parts i ≡ []
left_none parts i past = ap (map plain_part) (drop_all i parts past)

module _ (P : Part → Type 0) where
  dropped : (parts : List EdgePart) (i : ℕ) → AllByRecursion P (map plain_part parts) → AllByRecursion P (left parts i)
  dropped [] zero all = tt
  dropped [] (suc i) all = tt
  dropped (y ∷ parts) zero all = all
  dropped (y ∷ parts) (suc i) all = dropped parts i all.1

  -- what holds of all parts of an edge holds of each in its list
  pub held_of : ((y : Part) → IsProp (P y)) → (parts : List EdgePart) (all : List Part) (i : ℕ) (part : EdgePart) → ∥ map plain_part parts ≡ all ∥₁ → AllByRecursion P all → i < length parts →
      part ≡ get_or parts i part → P (plain_part part)
  held_of prop parts all i part listed held within is = ∥∥₁_elim listed (prop (plain_part part)) one
    where
      one : map plain_part parts ≡ all → P (plain_part part)
      one e =
          let rest : AllByRecursion P (plain_part part ∷ left parts (i + 1)) =
          subst (AllByRecursion P) (left_more parts i part within is) (dropped parts i (subst (AllByRecursion P) (sym e) held)) in
          rest.0

-- ---- one part is passed, or none

module _ (p : Program) (packs : List Pack) (a : Act) (x : Action) (y : Part) (rest ys : List Part) (cut : ys ≡ y ∷ rest) (s : Seen) (r : Seen2) where
  pub passed : (t : Seen) (q : Seen2) → step2_small p packs a x y s r ≡ Some (t, q) → steps2_small p packs a x ys s r ≡ steps2_small p packs a x rest t q
  passed t q e =
      ap (λ zs. steps2_small p packs a x zs s r) cut ∙ ap (λ (o : Option (Seen × Seen2)). o >>= λ u. steps2_small p packs a x rest u.0 u.1) e

  pub stopped : step2_small p packs a x y s r ≡ None → steps2_small p packs a x ys s r ≡ None
  stopped e =
      ap (λ zs. steps2_small p packs a x zs s r) cut ∙ ap (λ (o : Option (Seen × Seen2)). o >>= λ u. steps2_small p packs a x rest u.0 u.1) e

  whole : (fault : Kind) → clears_all2 p packs a x ys s r fault
      ≡ (clears_part2 p packs a x y s r fault && option_map_or (λ (u : Seen × Seen2). clears_all2 p packs a x rest u.0 u.1 fault) (step2_small p packs a x y s r) true)
  whole fault = ap (λ zs. clears_all2 p packs a x zs s r fault) cut

  pub cleared_passed : (t : Seen) (q : Seen2) → step2_small p packs a x y s r ≡ Some (t, q) → (fault : Kind) →
      (clears_part2 p packs a x y s r fault && clears_all2 p packs a x rest t q fault) ≡ clears_all2 p packs a x ys s r fault
  cleared_passed t q e fault =
      sym
      (whole fault ∙ ap (λ o. clears_part2 p packs a x y s r fault && option_map_or (λ (u : Seen × Seen2). clears_all2 p packs a x rest u.0 u.1 fault) o true) e)

  and_true : (b : Bool) → b ≡ (b && true)
  and_true true = refl
  and_true false = refl

  pub cleared_stopped : step2_small p packs a x y s r ≡ None → (fault : Kind) → clears_part2 p packs a x y s r fault ≡ clears_all2 p packs a x ys s r fault
  cleared_stopped e fault =
      and_true (clears_part2 p packs a x y s r fault)
      ∙ sym
      (whole fault ∙ ap (λ o. clears_part2 p packs a x y s r fault && option_map_or (λ (u : Seen × Seen2). clears_all2 p packs a x rest u.0 u.1 fault) o true) e)
