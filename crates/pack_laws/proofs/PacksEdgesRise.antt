-- Along an edge less is known of differences where less is known before it, of cells or of differences.
use Rattle.std.proofs.Common.{◌≡◌, ℕ, Bool, true, false, ◌&&◌, not, List, [], ◌∷◌, ◌++◌, ℤ, Option, Some, None, refl, ap, subst}
use Rattle.std.specs.Prelude.{IfSome, if◌then◌else◌}
use Rattle.std.specs.Option.{option_map_or}
use Rattle.std.proofs.lemmas.Bool.{and_parts}
use Rattle.cob_tree.specs.declared.fault.Kind.{Kind}
use Rattle.cob_data.specs.declared.extent.Extent.{Extent}
use Rattle.cob_program.specs.Values.{◌>>=◌}
use Rattle.cob_program.specs.Act.{Act, Program}
use Rattle.cob_runs.specs.declared.action.Action.{Action}
use Rattle.cob_edge_parts.specs.Parts.{Part, parts_of}
use Rattle.interval_domain.specs.Known.{Known}
use Rattle.interval_domain.specs.Elements.{CellsFit, CellsBelow}
use Rattle.cell_steps.specs.OwnRanges.{owns}
use Rattle.cell_steps.specs.Seen.{Seen, beginning}
use Rattle.cell_steps.specs.Stores.{handled}
use Rattle.cell_steps.specs.Steps.{step}
use Rattle.cell_steps.specs.Order.{SeenBelow}
use Rattle.cell_laws.proofs.PartsRise.{BelowIf, rises}
use Rattle.cell_laws.proofs.EdgesRise.{begins_below}
use Rattle.cell_laws.proofs.ResultLawsHold.{rising}
use Rattle.diff_steps.specs.Packs.{Pack, size_of}
use Rattle.diff_steps.specs.Moments.{Seen2, with_packs}
use Rattle.diff_steps.specs.Steps.{all_closed, written_by, changed_pack, changed, step2}
use Rattle.diff_steps.specs.Edges.{bottoms, or_bottoms, beginning2, steps2, finished2, walked_packs, post_packs}
use Rattle.diff_steps.specs.Clearing.{clears_part2, clears_parts2, clears_edge2}
use Rattle.pack_laws.specs.Orders.{AreLowerOff}
use Rattle.pack_laws.specs.Agreeing.{AreMatrices}
use Rattle.pack_laws.specs.EdgeLaws.{AreLowerEach}
use Rattle.pack_laws.proofs.PacksPutRise.{all_are_flat, LowerEachIf, all_fit, all_rise, each_rises}
use Rattle.pack_laws.proofs.PacksWordsRise.{bottom_below, matrix_is_high}
use Rattle.pack_laws.proofs.PacksFit.{changed_are_flat, posts_fit}
use Rattle.pack_laws.proofs.PacksPartsRise.{changed_rises}
use Rattle.pack_laws.proofs.PacksClearsFall.{PacksBelow, clears_part2_falls}
use Rattle.cell_laws.proofs.PartsDone.{and_true}

-- ---- where no run comes

pub bottoms_below : (packs : List Pack) (ms : List (List ℤ)) → AreMatrices packs ms → AreLowerEach packs (bottoms packs) ms
bottoms_below [] [] are = tt
bottoms_below [] (m ∷ ms) are = absurd are
bottoms_below (pack ∷ packs) [] are = absurd are
bottoms_below (pack ∷ packs) (m ∷ ms) are =
    (bottom_below (size_of pack) m (matrix_is_high (size_of pack) m are.0.1), bottoms_below packs ms are.1)

or_bottoms_rise : (packs : List Pack) (o q : Option (List (List ℤ))) → AreMatrices packs (or_bottoms packs q) → LowerEachIf packs o q → AreLowerEach packs (or_bottoms packs o) (or_bottoms packs q)
or_bottoms_rise packs None q are h = bottoms_below packs (or_bottoms packs q) are
or_bottoms_rise packs (Some ms) None are h = absurd h
or_bottoms_rise packs (Some ms) (Some ts) are h = h

-- ---- each part

module _ (p : Program) (a : Act) (x : Action) (packs : List Pack) where
  -- nothing lies below all
  abbrev BelowIf2 : Option (Seen × Seen2) → Option (Seen × Seen2) → Type 0
  BelowIf2 None q = Unit {0}
  BelowIf2 (Some u) None = ⊥
  BelowIf2 (Some u) (Some v) = SeenBelow p a x u.0 v.0 × PacksBelow packs u.1 v.1

  -- what a part makes of all packs
  abbrev its_changed : Part → Seen → Seen2 → List (List ℤ)
  its_changed y s r = (changed p a x packs y s r).packs

  step2_rises : (y : Part) (s t : Seen) (r q : Seen2) → SeenBelow p a x s t → PacksBelow packs r q → BelowIf2 (step2 p a x packs y s r) (step2 p a x packs y t q)
  step2_rises y s t r q below under = by_cells (step p a x y s) (step p a x y t) refl (rises rising p a x y s t below)
    where
      lower : (after : Seen) → step p a x y s ≡ Some after → AreLowerEach packs (its_changed y s r) (its_changed y t q)
      lower after e = each_rises (changed_pack p a x y s r.wrote) (changed_pack p a x y t q.wrote)
          (λ pack m u is are off. subst (λ (wrote : List Extent). AreLowerOff (size_of pack) (changed_pack p a x y s r.wrote pack m) (changed_pack p a x y t wrote pack u)) under.wrote
          (changed_rises p a x s t below r.wrote pack m u is are off y after e)) packs r.packs q.packs under.low under.high under.lower

      by_packs : (u v : Seen) → SeenBelow p a x u v → (o w : Option (List (List ℤ))) → LowerEachIf packs o w → IfSome o (AreMatrices packs) → IfSome w (AreMatrices packs)
          → BelowIf2 (o >>= λ cs. Some (u, with_packs (changed p a x packs y s r) cs)) (w >>= λ cs. Some (v, with_packs (changed p a x packs y t q) cs))
      by_packs u v k None w l f g = tt
      by_packs u v k (Some cs) None l f g = absurd l
      by_packs u v k (Some cs) (Some ds) l f g = (k, record { wrote = ap (λ (wrote : List Extent). written_by p a x y ++ wrote) under.wrote; low = f; high = g; lower = l })

      by_cells : (o w : Option Seen) → step p a x y s ≡ o → BelowIf p a x o w
          → BelowIf2 (o >>= λ u. all_closed p u.cells packs (its_changed y s r) >>= λ cs. Some (u, with_packs (changed p a x packs y s r) cs)) (w >>= λ v. all_closed p v.cells packs (its_changed y t q) >>= λ cs. Some (v, with_packs (changed p a x packs y t q) cs))
      by_cells None w e k = tt
      by_cells (Some u) None e k = absurd k
      by_cells (Some u) (Some v) e k =
          let flat = changed_are_flat p a x packs y s r under.low in
          let level = changed_are_flat p a x packs y t q under.high in
          by_packs u v k (all_closed p u.cells packs (its_changed y s r)) (all_closed p v.cells packs (its_changed y t q)) (all_rise p u.cells v.cells k.cells packs (its_changed y s r) (its_changed y t q) flat level (lower u e)) (all_fit p u.cells packs (its_changed y s r) flat) (all_fit p v.cells packs (its_changed y t q) level)

  then_rises : (o w : Option (Seen × Seen2)) (ys : List Part) → BelowIf2 o w
      → ((s t : Seen) (r q : Seen2) → SeenBelow p a x s t → PacksBelow packs r q → BelowIf2 (steps2 p packs a x ys s r) (steps2 p packs a x ys t q))
      → BelowIf2 (o >>= λ u. steps2 p packs a x ys u.0 u.1) (w >>= λ v. steps2 p packs a x ys v.0 v.1)
  then_rises None w ys h more = tt
  then_rises (Some u) None ys h more = absurd h
  then_rises (Some u) (Some v) ys h more = more u.0 v.0 u.1 v.1 h.0 h.1

  steps2_rise : (ys : List Part) (s t : Seen) (r q : Seen2) → SeenBelow p a x s t → PacksBelow packs r q → BelowIf2 (steps2 p packs a x ys s r) (steps2 p packs a x ys t q)
  steps2_rise [] s t r q below under = (below, under)
  steps2_rise (y ∷ ys) s t r q below under =
      then_rises (step2 p a x packs y s r) (step2 p a x packs y t q) ys (step2_rises y s t r q below under) (λ u v k l h g. steps2_rise ys u v k l h g)

  finished2_rises : (o w : Option (Seen × Seen2)) → BelowIf2 o w → LowerEachIf packs (finished2 p packs a x o) (finished2 p packs a x w)
  finished2_rises None w h = tt
  finished2_rises (Some u) None h = absurd h
  finished2_rises (Some u) (Some v) h = go (handled p a x) u.0.any_fail v.0.any_fail h.0.fails
    where
      go : (b f g : Bool) → (f ≡ true → g ≡ true) → LowerEachIf packs (if b && not f then None else Some u.1.packs) (if b && not g then None else Some v.1.packs)
      go true true true fg = h.1.lower
      go true true false fg = absurd (let e = fg refl in cc)
      go true false g fg = tt
      go false f g fg = h.1.lower

  -- ---- what is cleared

  if_falls : (o w : Option (Seen × Seen2)) (ys : List Part) (fault : Kind) → BelowIf2 o w
      → ((s t : Seen) (r q : Seen2) → SeenBelow p a x s t → PacksBelow packs r q → clears_parts2 p packs a x ys t q fault ≡ true → clears_parts2 p packs a x ys s r fault ≡ true)
      → option_map_or (λ v. clears_parts2 p packs a x ys v.0 v.1 fault) w true ≡ true → option_map_or (λ u. clears_parts2 p packs a x ys u.0 u.1 fault) o true ≡ true
  if_falls None w ys fault h more e = refl
  if_falls (Some u) None ys fault h more e = absurd h
  if_falls (Some u) (Some v) ys fault h more e = more u.0 v.0 u.1 v.1 h.0 h.1 e

  clears_parts2_fall : (ys : List Part) (s t : Seen) (r q : Seen2) (fault : Kind) → SeenBelow p a x s t → PacksBelow packs r q → clears_parts2 p packs a x ys t q fault ≡ true → clears_parts2 p packs a x ys s r fault ≡ true
  clears_parts2_fall [] s t r q fault below under e = refl
  clears_parts2_fall (y ∷ ys) s t r q fault below under e =
      let two = and_parts (clears_part2 p packs a x y t q fault) (option_map_or (λ v. clears_parts2 p packs a x ys v.0 v.1 fault) (step2 p a x packs y t q) true) e in
      and_true (clears_part2 p packs a x y s r fault) (option_map_or (λ u. clears_parts2 p packs a x ys u.0 u.1 fault) (step2 p a x packs y s r) true)
      (clears_part2_falls p packs r q under a x s t below y fault two.0)
      (if_falls (step2 p a x packs y s r) (step2 p a x packs y t q) ys fault (step2_rises y s t r q below under) (λ u v k l h g c. clears_parts2_fall ys u v k l fault h g c) two.1)

-- ---- edges

module _ (p : Program) (packs : List Pack) (statement : ℕ) (a : Act) (x : Action)
    (less more : List Known) (fits : CellsFit (owns p) less) (below : CellsBelow less more)
    (low high : List (List ℤ)) (are : AreMatrices packs low) (is : AreMatrices packs high) (lower : AreLowerEach packs low high) where
  first_rise : LowerEachIf packs (all_closed p less packs low) (all_closed p more packs high)
  first_rise = all_rise p less more below packs low high (all_are_flat packs low are) (all_are_flat packs high is) lower

  begins2_below : (cs ds : List (List ℤ)) → AreLowerEach packs cs ds → AreMatrices packs cs → AreMatrices packs ds → PacksBelow packs (beginning2 cs) (beginning2 ds)
  begins2_below cs ds l f g = record { wrote = refl; low = f; high = g; lower = l }

  walks_rise : LowerEachIf packs (walked_packs p packs statement a x (Some less) low) (walked_packs p packs statement a x (Some more) high)
  walks_rise =
      by_packs (all_closed p less packs low) (all_closed p more packs high) first_rise (all_fit p less packs low (all_are_flat packs low are)) (all_fit p more packs high (all_are_flat packs high is))
    where
      by_packs : (o w : Option (List (List ℤ))) → LowerEachIf packs o w → IfSome o (AreMatrices packs) → IfSome w (AreMatrices packs)
          → LowerEachIf packs (o >>= λ cs. finished2 p packs a x (steps2 p packs a x (parts_of p statement a x) (beginning less) (beginning2 cs))) (w >>= λ ds. finished2 p packs a x (steps2 p packs a x (parts_of p statement a x) (beginning more) (beginning2 ds)))
      by_packs None w l f g = tt
      by_packs (Some cs) None l f g = absurd l
      by_packs (Some cs) (Some ds) l f g =
          finished2_rises p a x packs (steps2 p packs a x (parts_of p statement a x) (beginning less) (beginning2 cs)) (steps2 p packs a x (parts_of p statement a x) (beginning more) (beginning2 ds))
          (steps2_rise p a x packs (parts_of p statement a x) (beginning less) (beginning more) (beginning2 cs) (beginning2 ds)
          (begins_below rising p a x less more fits below) (begins2_below cs ds l f g))

  pub posts_rise : AreLowerEach packs (post_packs p packs statement a x (Some less) low) (post_packs p packs statement a x (Some more) high)
  posts_rise =
      or_bottoms_rise packs (walked_packs p packs statement a x (Some less) low) (walked_packs p packs statement a x (Some more) high)
      (posts_fit p packs statement a x more high is) walks_rise

  pub clears_stay : (fault : Kind) → clears_edge2 p packs statement a x more high fault ≡ true → clears_edge2 p packs statement a x less low fault ≡ true
  clears_stay fault =
      by_packs (all_closed p less packs low) (all_closed p more packs high) first_rise (all_fit p less packs low (all_are_flat packs low are)) (all_fit p more packs high (all_are_flat packs high is))
    where
      by_packs : (o w : Option (List (List ℤ))) → LowerEachIf packs o w → IfSome o (AreMatrices packs) → IfSome w (AreMatrices packs)
          → option_map_or (λ ds. clears_parts2 p packs a x (parts_of p statement a x) (beginning more) (beginning2 ds) fault) w true ≡ true
          → option_map_or (λ cs. clears_parts2 p packs a x (parts_of p statement a x) (beginning less) (beginning2 cs) fault) o true ≡ true
      by_packs None w l f g e = refl
      by_packs (Some cs) None l f g e = absurd l
      by_packs (Some cs) (Some ds) l f g e =
          clears_parts2_fall p a x packs (parts_of p statement a x) (beginning less) (beginning more) (beginning2 cs) (beginning2 ds) fault
          (begins_below rising p a x less more fits below) (begins2_below cs ds l f g) e
