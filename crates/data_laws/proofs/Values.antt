-- Items that begin with a value follow each other.
use Rattle.std.proofs.Common.{◌≡◌, ℕ, ◌+◌, ◌<◌, ◌≤◌, zero, suc, Bool, true, false, not, cond, ◌&&◌, ◌||◌, List, [], ◌∷◌, slice_get, Option, Some, None, is_some, refl, ap, sym, ◌∙◌, arith}
use Rattle.std.specs.Option.{option_and_then}
use Rattle.std.proofs.lemmas.Bool.{not-false}
use Rattle.std.proofs.lemmas.Option.{same_Some}
use Rattle.cob_tree.specs.declared.tree.Tree.{Tree}
use Rattle.cob_data.specs.declared.layout.Item.{Item}
use Rattle.cob_data.specs.declared.description.Span.{Span}
use Rattle.cob_data.specs.declared.description.Description.{Description}
use Rattle.cob_data.specs.declared.description.Spot.{Spot}
use Rattle.cob_data.specs.declared.end.Rule.TheVariants.{L2, L5}
use Rattle.cob_data.specs.Spots.{is_file}
use Rattle.cob_data.specs.Values.{holds}
use Rattle.cob_data.specs.ItemRules.{breaks_values, may_begin_with}
use Rattle.cob_data.specs.Rules.{facts_of, item_breaks}
use Rattle.cob_data.specs.Layouts.{first_low, item_at, laid_items, layout, HasLayout}
use Rattle.cob_data.proofs.AnswerLemmas.{seated}
use Rattle.data_laws.proofs.Pairs.{AllPairs}
use Rattle.data_laws.proofs.Deep.{IsUnderOwn, all_under_own}
use Rattle.data_laws.proofs.Apart.{IsSettled, StartsFrom, FollowEachOther, all_follow, rooms_kept}
use Rattle.data_laws.proofs.Kept.{keeps_item_rules}

-- ---- what begins with a value is settled

alone_by : (group pictured usage sign value : Bool) → cond group (pictured || usage || sign || value) (not pictured) ≡ false → value ≡ true → group ≡ false
alone_by group pictured usage sign value kept has = grind arith

begins_by : (file shared fits : Bool) → (not file && not shared && fits) ≡ true → (file ≡ false) × (shared ≡ false)
begins_by true shared fits may = absurd (cc)
begins_by false true fits may = absurd (cc)
begins_by false false fits may = (refl, refl)

begins : (d : Description) (s : Spot) (value : Option (List Span)) → d.value ≡ value → breaks_values d s ≡ false → is_some value ≡ true →
    (is_file d.area ≡ false) × (s.shared ≡ false)
begins d s None e kept has = absurd (cc)
begins d s (Some values) e kept has =
    begins_by (is_file d.area) s.shared (holds d.form values) (not-false (may_begin_with d s values) (rw e at kept))

settles : (d : Description) (s : Spot) → IsUnderOwn d s → item_breaks L2 d s ≡ false → item_breaks L5 d s ≡ false → is_some d.value ≡ true → IsSettled d s
settles d s under parts values has =
    let may = begins d s d.value refl values has in
    record {
      unshared = may.1;
      stored = may.0;
      alone = alone_by s.group d.pictured (is_some d.usage) (is_some d.sign) (is_some d.value) parts has;
      under = under;
    }

-- ---- items in their places

abbrev IsSettledByValue : Description → Spot → Type 0
IsSettledByValue d s = is_some (item_at d s).value ≡ true → IsSettled d s

has_value : (value : Option (List Span)) → is_some (option_and_then first_low value) ≡ true → is_some value ≡ true
has_value None has = has
has_value (Some values) has = refl

all_settled : (ds : List Description) (ss : List Spot) → AllPairs IsUnderOwn ds ss → AllPairs (λ d s. item_breaks L2 d s ≡ false) ds ss →
    AllPairs (λ d s. item_breaks L5 d s ≡ false) ds ss → AllPairs IsSettledByValue ds ss
all_settled [] ss under parts values = tt
all_settled (d ∷ ds) [] under parts values = tt
all_settled (d ∷ ds) (s ∷ ss) under parts values =
    (λ has. settles d s under.0 parts.0 values.0 (has_value d.value has), all_settled ds ss under.1 parts.1 values.1)

-- the item at a place of a list begins with a value
pub record BeginsAt (items : List Item) (place : ℕ) (i : Item) : Type 0 where
  pub at : slice_get items place ≡ Some i
  pub value : is_some i.value ≡ true

later_from : (from : ℕ) (ds : List Description) (ss : List Spot) → AllPairs (StartsFrom from) ds ss → AllPairs IsSettledByValue ds ss →
    (b : ℕ) (j : Item) → BeginsAt (laid_items ds ss) b j → from ≤ j.offset
later_from from [] ss starts settled b j begins_ = let none = begins_.at in absurd (cc)
later_from from (d ∷ ds) [] starts settled b j begins_ = let none = begins_.at in absurd (cc)
later_from from (d ∷ ds) (s ∷ ss) starts settled zero j begins_ =
    let same : item_at d s ≡ j = same_Some _ _ begins_.at in
    let has : is_some (item_at d s).value ≡ true = ap (λ (i : Item). is_some i.value) same ∙ begins_.value in
    omega (arith, starts.0 (settled.0 has), ap (λ (i : Item). i.offset) same)
later_from from (d ∷ ds) (s ∷ ss) starts settled (suc b) j begins_ =
    later_from from ds ss starts.1 settled.1 b j (record { at = begins_.at; value = begins_.value })

ends_before : (ds : List Description) (ss : List Spot) → FollowEachOther ds ss → AllPairs IsSettledByValue ds ss →
    (a b : ℕ) (i j : Item) → a < b → BeginsAt (laid_items ds ss) a i → BeginsAt (laid_items ds ss) b j → i.offset + i.length ≤ j.offset
ends_before [] ss follow settled a b i j low first second = let none = first.at in absurd (cc)
ends_before (d ∷ ds) [] follow settled a b i j low first second = let none = first.at in absurd (cc)
ends_before (d ∷ ds) (s ∷ ss) follow settled a zero i j low first second = absurd (omega (arith, low))
ends_before (d ∷ ds) (s ∷ ss) follow settled zero (suc b) i j low first second =
    let same : item_at d s ≡ i = same_Some _ _ first.at in
    let has : is_some (item_at d s).value ≡ true = ap (λ (x : Item). is_some x.value) same ∙ first.value in
    let from = later_from (s.start + s.length) ds ss (follow.0 (settled.0 has)) settled.1 b j (record { at = second.at; value = second.value }) in
    omega (arith, from, ap (λ (x : Item). x.offset) same, ap (λ (x : Item). x.length) same)
ends_before (d ∷ ds) (s ∷ ss) follow settled (suc a) (suc b) i j low first second =
    ends_before ds ss follow.1 settled.1 a b i j (omega (arith, low)) (record { at = first.at; value = first.value }) (record { at = second.at; value = second.value })

-- the earlier one ends where the later one starts, or before
pub values_follow : (t : Tree) → HasLayout t → (a b : ℕ) (i j : Item) → a < b → BeginsAt (layout t).items a i → BeginsAt (layout t).items b j →
    i.offset + i.length ≤ j.offset
values_follow t has =
    let f = facts_of t in
    let rules = keeps_item_rules t has in
    let under = all_under_own f.items (seated f.items) rules.levels in
    let follow = all_follow f.items (rooms_kept f.items f.spots rules.redefinitions) in
    ends_before f.items f.spots follow (all_settled f.items f.spots under rules.parts rules.values)

-- ---- each has one occurrence

laid_once : (ds : List Description) (ss : List Spot) (place : ℕ) (i : Item) → slice_get (laid_items ds ss) place ≡ Some i → i.times ≡ 1
laid_once [] ss place i at = absurd (cc)
laid_once (d ∷ ds) [] place i at = absurd (cc)
laid_once (d ∷ ds) (s ∷ ss) zero i at = ap (λ (x : Item). x.times) (sym (same_Some (item_at d s) i at))
laid_once (d ∷ ds) (s ∷ ss) (suc place) i at = laid_once ds ss place i at

pub items_once : (t : Tree) (place : ℕ) (i : Item) → slice_get (layout t).items place ≡ Some i → i.times ≡ 1
items_once t = let f = facts_of t in laid_once f.items f.spots

laid_plain : (ds : List Description) (ss : List Spot) (place : ℕ) (i : Item) → slice_get (laid_items ds ss) place ≡ Some i → i.stride ≡ 0
laid_plain [] ss place i at = absurd (cc)
laid_plain (d ∷ ds) [] place i at = absurd (cc)
laid_plain (d ∷ ds) (s ∷ ss) zero i at = ap (λ (x : Item). x.stride) (sym (same_Some (item_at d s) i at))
laid_plain (d ∷ ds) (s ∷ ss) (suc place) i at = laid_plain ds ss place i at

-- and none is a table's
pub items_plain : (t : Tree) (place : ℕ) (i : Item) → slice_get (layout t).items place ≡ Some i → i.stride ≡ 0
items_plain t = let f = facts_of t in laid_plain f.items f.spots
