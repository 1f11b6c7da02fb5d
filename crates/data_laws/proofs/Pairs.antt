-- Items with the places where they lie.
use Rattle.std.proofs.Common.{◌≡◌, ℕ, Bool, true, false, List, [], ◌∷◌, ◌++◌, length, refl, arith}
use Rattle.rule_order.specs.Order.{line_if}
use Rattle.cob_data.specs.declared.description.Description.{Description}
use Rattle.cob_data.specs.declared.description.Spot.{Spot}
use Rattle.cob_data.specs.declared.end.Rule.{Rule}
use Rattle.cob_data.specs.Rules.{item_breaks, item_lines}

-- what holds of each item with its place
abbrev pub AllPairs : (Description → Spot → Type 0) → List Description → List Spot → Type 0
AllPairs P [] ss = Unit {0}
AllPairs P (d ∷ ds) [] = Unit {0}
AllPairs P (d ∷ ds) (s ∷ ss) = P d s × AllPairs P ds ss

pub pairs_map : (P Q : Description → Spot → Type 0) → ((d : Description) (s : Spot) → P d s → Q d s) →
    (ds : List Description) (ss : List Spot) → AllPairs P ds ss → AllPairs Q ds ss
pairs_map P Q f [] ss all = tt
pairs_map P Q f (d ∷ ds) [] all = tt
pairs_map P Q f (d ∷ ds) (s ∷ ss) all = (f d s all.0, pairs_map P Q f ds ss all.1)

pub pairs_append : (P : Description → Spot → Type 0) (ds es : List Description) (ss ts : List Spot) →
    length ds ≡ length ss → AllPairs P ds ss → AllPairs P es ts → AllPairs P (ds ++ es) (ss ++ ts)
pairs_append P [] es [] ts e first second = second
pairs_append P [] es (s ∷ ss) ts e first second = absurd (omega (arith, e))
pairs_append P (d ∷ ds) es [] ts e first second = absurd (omega (arith, e))
pairs_append P (d ∷ ds) es (s ∷ ss) ts e first second =
    (first.0, pairs_append P ds es ss ts (omega (arith, e)) first.1 second)

pub pairs_left : (P : Description → Spot → Type 0) (ds es : List Description) (ss ts : List Spot) →
    length ds ≡ length ss → AllPairs P (ds ++ es) (ss ++ ts) → AllPairs P ds ss
pairs_left P [] es ss ts e all = tt
pairs_left P (d ∷ ds) es [] ts e all = tt
pairs_left P (d ∷ ds) es (s ∷ ss) ts e all = (all.0, pairs_left P ds es ss ts (omega (arith, e)) all.1)

pub pairs_right : (P : Description → Spot → Type 0) (ds es : List Description) (ss ts : List Spot) →
    length ds ≡ length ss → AllPairs P (ds ++ es) (ss ++ ts) → AllPairs P es ts
pairs_right P [] es [] ts e all = all
pairs_right P [] es (s ∷ ss) ts e all = absurd (omega (arith, e))
pairs_right P (d ∷ ds) es [] ts e all = absurd (omega (arith, e))
pairs_right P (d ∷ ds) es (s ∷ ss) ts e all = pairs_right P ds es ss ts (omega (arith, e)) all.1

-- ---- rules that are kept

line_kept : (x : Bool) (line : ℕ) (others : List ℕ) → line_if x line others ≡ [] → (x ≡ false) × (others ≡ [])
line_kept true line others e = absurd (cc)
line_kept false line others e = (refl, e)

pub rule_kept : (rule : Rule) (ds : List Description) (ss : List Spot) → item_lines rule ds ss ≡ [] →
    AllPairs (λ d s. item_breaks rule d s ≡ false) ds ss
rule_kept rule [] ss kept = tt
rule_kept rule (d ∷ ds) [] kept = tt
rule_kept rule (d ∷ ds) (s ∷ ss) kept =
    let both = line_kept (item_breaks rule d s) d.line (item_lines rule ds ss) kept in
    (both.0, rule_kept rule ds ss both.1)
