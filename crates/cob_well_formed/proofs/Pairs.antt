-- Items with the places where they lie.
use Rattle.std.proofs.Common.{◌≡◌, ℕ, ◌+◌, Bool, true, false, not, List, [], ◌∷◌, ◌++◌, length, Option, Some, None, refl, subst, arith}
use Rattle.rule_order.specs.Order.{line_if}
use Rattle.cob_data.specs.declared.description.Description.{Description}
use Rattle.cob_data.specs.declared.description.Spot.{Spot}
use Rattle.cob_data.specs.declared.description.Above.{Above}
use Rattle.cob_data.specs.declared.end.Rule.{Rule}
use Rattle.cob_data.specs.Lengths.{Forest, bare, item, forest, size, item_bytes}
use Rattle.cob_data.specs.Spots.{Neighbour, is_bare, spot, spots, above_parts, end_behind, lies_on_last, nothing_above, all_spots}
use Rattle.cob_data.specs.Rules.{item_breaks, item_lines}
use Rattle.cob_data.proofs.PartLemmas.{flat, flat_forest, inner, outer, same_length}

-- what holds of each item with its place
abbrev pub AllPairs : (Description → Spot → Type 0) → List Description → List Spot → Type 0
AllPairs P [] ss = Unit {0}
AllPairs P (d ∷ ds) [] = Unit {0}
AllPairs P (d ∷ ds) (s ∷ ss) = P d s × AllPairs P ds ss

pub pairs_append : (P : Description → Spot → Type 0) (ds es : List Description) (ss ts : List Spot) →
    length ds ≡ length ss →
    AllPairs P ds ss → AllPairs P es ts → AllPairs P (ds ++ es) (ss ++ ts)
pairs_append P [] es [] ts e first second = second
pairs_append P [] es (s ∷ ss) ts e first second = absurd (omega (arith, e))
pairs_append P (d ∷ ds) es [] ts e first second = absurd (omega (arith, e))
pairs_append P (d ∷ ds) es (s ∷ ss) ts e first second =
    (first.0, pairs_append P ds es ss ts (omega (arith, e)) first.1 second)

-- ---- rules that are kept

line_kept : (x : Bool) (line : ℕ) (others : List ℕ) → line_if x line others ≡ [] → (x ≡ false) × (others ≡ [])
line_kept true line others e = absurd (cc)
line_kept false line others e = (refl, e)

pub rule_kept : (rule : Rule) (ds : List Description) (ss : List Spot) → item_lines rule ds ss ≡ [] →
    AllPairs (λ d s. item_breaks rule d s ≡ false) ds ss
rule_kept rule [] ss kept = tt
rule_kept rule (d ∷ ds) [] kept = tt
rule_kept rule (d ∷ ds) (s ∷ ss) kept =
    let both = line_kept (item_breaks rule d s) d.line (item_lines rule ds ss) kept in
    (both.0, rule_kept rule ds ss both.1)

-- ---- bytes

-- what has nothing below it has the bytes of its picture
abbrev pub HasOwnBytes : Description → Spot → Type 0
HasOwnBytes d s = s.group ≡ false → s.length ≡ d.bytes

own_bytes : (d : Description) (b : Forest) → not (is_bare b) ≡ false → item_bytes d b ≡ d.bytes
own_bytes d bare e = refl
own_bytes d (item x b r) e = absurd (cc)

bytes_in : (above : Above) (place next : ℕ) (last : Option Neighbour) (f : Forest) →
    AllPairs HasOwnBytes (flat f) (spots above place next last f)
bytes_in above place next last bare = tt
bytes_in above place next last (item d b r) =
    let s = spot above next last d b in (
      own_bytes d b,
      pairs_append HasOwnBytes (flat b) (flat r) (inner above place next last d b) (outer above place next last d b r)
          (same_length (above_parts place s) (place + 1) s.start None b)
          (bytes_in (above_parts place s) (place + 1) s.start None b)
          (bytes_in above (place + 1 + size b) (end_behind above next (lies_on_last above d last) s) (Some (record { item = d; spot = s })) r),
    )

pub have_own_bytes : (ds : List Description) → AllPairs HasOwnBytes ds (all_spots ds)
have_own_bytes ds =
    subst (λ xs. AllPairs HasOwnBytes xs (all_spots ds)) (flat_forest ds) (bytes_in nothing_above 0 0 None (forest ds))
