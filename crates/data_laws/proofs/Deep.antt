-- What is below an item is deeper, and so it lies in the area of the 01 above it.
use Rattle.std.proofs.Common.{◌≡◌, ℕ, ◌+◌, ◌<◌, ◌≤◌, Bool, true, false, not, cond, eqb, leb, ◌&&◌, ◌||◌, List, [], ◌∷◌, length, Option, Some, None, is_some, refl, sym, subst, arith}
use Rattle.std.proofs.lemmas.Bool.Decides.{nat_tests}
use Rattle.cob_data.specs.declared.description.Description.{Description}
use Rattle.cob_data.specs.declared.description.Spot.{Spot}
use Rattle.cob_data.specs.declared.description.Above.{Above}
use Rattle.cob_data.specs.declared.end.Rule.TheVariants.{L1}
use Rattle.cob_data.specs.Lengths.{Forest, bare, item, depth, is_deeper, deeper, behind, forest, size}
use Rattle.cob_data.specs.Spots.{Neighbour, spot, spots, above_parts, end_behind, lies_on_last, nothing_above, all_spots}
use Rattle.cob_data.specs.ItemRules.{is_under_01}
use Rattle.cob_data.specs.Rules.{item_breaks}
use Rattle.cob_data.proofs.PartLemmas.{flat, flat_forest, inner, outer, same_length}
use Rattle.data_laws.proofs.Pairs.{AllPairs, pairs_append, pairs_left, pairs_right}

-- ---- items side by side are deeper than this, and so on below each of them

abbrev IsDeep : ℕ → Forest → Type 0
IsDeep n bare = Unit {0}
IsDeep n (item d b r) = (n < depth d) × IsDeep (depth d) b × IsDeep n r

deep_deeper : (n m : ℕ) (f : Forest) → IsDeep n f → IsDeep m (deeper m f)
deep_deeper n m bare deep = tt
deep_deeper n m (item d b r) deep = at (is_deeper m d) refl (deep_deeper n m r deep.2) where
  at : (x : Bool) → is_deeper m d ≡ x → IsDeep m (deeper m r) → IsDeep m (cond x (item d b (deeper m r)) bare)
  at true e beside = (grind (arith, nat_tests), deep.1, beside)
  at false e beside = tt

deep_behind : (n m : ℕ) (f : Forest) → IsDeep n f → IsDeep n (behind m f)
deep_behind n m bare deep = tt
deep_behind n m (item d b r) deep = at (is_deeper m d) (deep_behind n m r deep.2) where
  at : (x : Bool) → IsDeep n (behind m r) → IsDeep n (cond x (behind m r) (item d b r))
  at true beside = beside
  at false beside = deep

-- ---- levels

abbrev KeepsLevels : Description → Spot → Type 0
KeepsLevels d s = item_breaks L1 d s ≡ false

depth_of : (level : ℕ) (x y : Bool) →
    not ((eqb level 1 || (eqb level 77 && x)) || (leb 2 level && leb level 49 && y)) ≡ false →
    0 < cond (eqb level 77) 1 level
depth_of level x y kept = grind (arith, nat_tests)

under_of : (level : ℕ) (x y : Bool) →
    not ((eqb level 1 || (eqb level 77 && x)) || (leb 2 level && leb level 49 && y)) ≡ false →
    1 < cond (eqb level 77) 1 level → y ≡ true
under_of level x y kept deep = grind (arith, nat_tests)

deep_forest : (ds : List Description) (ss : List Spot) → length ds ≡ length ss → AllPairs KeepsLevels ds ss → IsDeep 0 (forest ds)
deep_forest [] ss e kept = tt
deep_forest (d ∷ ds) [] e kept = absurd (omega (arith, e))
deep_forest (d ∷ ds) (s ∷ ss) e kept =
    let others = deep_forest ds ss (omega (arith, e)) kept.1 in (
      depth_of d.level _ _ kept.0,
      deep_deeper 0 (depth d) (forest ds) others,
      deep_behind 0 (depth d) (forest ds) others,
    )

-- ---- areas

-- what isn't at the top lies below an 01 of its own area
abbrev pub IsUnderOwn : Description → Spot → Type 0
IsUnderOwn d s = is_some s.parent ≡ true → is_under_01 d.area s.under ≡ true

under_in : (n : ℕ) (above : Above) (place next : ℕ) (last : Option Neighbour) (f : Forest) → IsDeep n f →
    (is_some above.parent ≡ true → 1 ≤ n) → AllPairs KeepsLevels (flat f) (spots above place next last f) →
    AllPairs IsUnderOwn (flat f) (spots above place next last f)
under_in n above place next last bare deep some kept = tt
under_in n above place next last (item d b r) deep some kept =
    let s = spot above next last d b in
    let I = inner above place next last d b in
    let O = outer above place next last d b r in
    let same = same_length (above_parts place s) (place + 1) s.start None b in (
      λ has. under_of d.level _ _ kept.0 (omega (arith, some has, deep.0)),
      pairs_append IsUnderOwn (flat b) (flat r) I O same
          (under_in (depth d) (above_parts place s) (place + 1) s.start None b deep.1 (λ has. omega (arith, deep.0)) (pairs_left KeepsLevels (flat b) (flat r) I O same kept.1))
          (under_in n above (place + 1 + size b) (end_behind above next (lies_on_last above d last) s) (Some (record { item = d; spot = s })) r deep.2 some (pairs_right KeepsLevels (flat b) (flat r) I O same kept.1)),
    )

pub all_under_own : (ds : List Description) → length ds ≡ length (all_spots ds) → AllPairs KeepsLevels ds (all_spots ds) → AllPairs IsUnderOwn ds (all_spots ds)
all_under_own ds e kept =
    let items = flat_forest ds in
    let deep = deep_forest ds (all_spots ds) e kept in
    let levels : AllPairs KeepsLevels (flat (forest ds)) (all_spots ds) = subst (λ xs. AllPairs KeepsLevels xs (all_spots ds)) (sym items) kept in
    subst (λ xs. AllPairs IsUnderOwn xs (all_spots ds)) items (under_in 0 nothing_above 0 0 None (forest ds) deep (λ has. absurd (cc)) levels)
