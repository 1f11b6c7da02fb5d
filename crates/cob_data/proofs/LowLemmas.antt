-- What lies within storage of few bytes.
use Rattle.std.proofs.Common.{◌≡◌, ℕ, ◌+◌, ◌≤◌, max, Bool, true, false, cond, List, [], ◌∷◌, ◌++◌, Option, Some, None, refl, arith}
use Rattle.std.specs.List.{AllByRecursion, fold}
use Rattle.cob_data.specs.declared.description.Description.{Description}
use Rattle.cob_data.specs.declared.description.Spot.{Spot}
use Rattle.cob_data.specs.declared.description.Above.{Above}
use Rattle.cob_data.specs.Lengths.{Forest, bare, item, forest, size}
use Rattle.cob_data.specs.Spots.{Neighbour, spot, spots, above_parts, end_behind, lies_on_last, nothing_above, all_spots, storage_of}
use Rattle.cob_data.specs.Files.{longest, largest_record, is_record_of}
use Rattle.cob_data.specs.Rules.{storage_limit}
use Rattle.cob_data.specs.Layouts.{area_start}
use Rattle.cob_data.specs.Known.{AreLow}

pub all_append : (P : Spot → Type 0) (xs ys : List Spot) → AllByRecursion P xs → AllByRecursion P ys → AllByRecursion P (xs ++ ys)
all_append P [] ys p q = q
all_append P (x ∷ xs) ys p q = (p.0, all_append P xs ys p.1 q)

abbrev pub EndsRightly : Spot → Type 0
EndsRightly s = s.end ≡ s.start + s.length

pub spots_end_rightly : (above : Above) (place next : ℕ) (last : Option Neighbour) (f : Forest) → AllByRecursion EndsRightly (spots above place next last f)
spots_end_rightly above place next last bare = tt
spots_end_rightly above place next last (item d b r) =
    let s = spot above next last d b in (
      refl,
      all_append EndsRightly (spots (above_parts place s) (place + 1) s.start None b) (spots above (place + 1 + size b) (end_behind above next (lies_on_last above d last) s) (Some (record { item = d; spot = s })) r)
          (spots_end_rightly (above_parts place s) (place + 1) s.start None b)
          (spots_end_rightly above (place + 1 + size b) (end_behind above next (lies_on_last above d last) s) (Some (record { item = d; spot = s })) r),
    )

abbrev greatest : ℕ → List Spot → ℕ
greatest m ss = fold (λ most (s : Spot). max most s.end) m ss

above_start : (m : ℕ) (ss : List Spot) → m ≤ greatest m ss
above_start m [] = omega arith
above_start m (s ∷ ss) = omega (arith, above_start (max m s.end) ss)

low_of : (m most : ℕ) (ss : List Spot) → AllByRecursion EndsRightly ss → greatest m ss ≤ most → most ≤ storage_limit → AreLow ss
low_of m most [] ends within few = tt
low_of m most (s ∷ ss) ends within few =
    let high = above_start (max m s.end) ss in
    let rightly : s.end ≡ s.start + s.length = ends.0 in
    (record { start = omega (arith, high, rightly); length = omega (arith, high, rightly) }, low_of (max m s.end) most ss ends.1 within few)

pub are_low : (ds : List Description) → storage_of (all_spots ds) ≤ storage_limit → AreLow (all_spots ds)
are_low ds within = low_of 0 storage_limit (all_spots ds) (spots_end_rightly nothing_above 0 0 None (forest ds)) within (omega arith)

pub longest_low : (most n : ℕ) (ds : List Description) (ss : List Spot) → most ≤ storage_limit → AreLow ss → longest most n ds ss ≤ storage_limit
longest_low most n [] ss few low = few
longest_low most n (d ∷ ds) [] few low = few
longest_low most n (d ∷ ds) (s ∷ ss) few low = longest_low (cond (is_record_of n d) (max most s.length) most) n ds ss (at (is_record_of n d) most s.length few low.0.length) low.1 where
  at : (x : Bool) (m k : ℕ) → m ≤ storage_limit → k ≤ storage_limit → cond x (max m k) m ≤ storage_limit
  at true m k a b = omega arith
  at false m k a b = a

pub area_low : (n : ℕ) (ds : List Description) (ss : List Spot) → AreLow ss → area_start n ds ss ≤ storage_limit
area_low n [] ss low = omega arith
area_low n (d ∷ ds) [] low = omega arith
area_low n (d ∷ ds) (s ∷ ss) low = at (is_record_of n d) s.start (area_start n ds ss) low.0.start (area_low n ds ss low.1) where
  at : (x : Bool) (m k : ℕ) → m ≤ storage_limit → k ≤ storage_limit → cond x m k ≤ storage_limit
  at true m k a b = a
  at false m k a b = b

pub record_low : (n : ℕ) (ds : List Description) (ss : List Spot) → AreLow ss → largest_record n ds ss ≤ storage_limit
record_low n ds ss low = longest_low 0 n ds ss (omega arith) low
