-- An item with a separate sign has S in its picture.
use Rattle.std.proofs.Common.{◌≡◌, Bool, true, false, not, ◌&&◌, ◌||◌, if◌then◌else◌, List, [], ◌∷◌, Option, Some, None, is_some, refl, arith}
use Rattle.std.specs.List.{All, AllByRecursion, find}
use Rattle.std.proofs.lemmas.List.Elements.{All-nil, All-cons}
use Rattle.cob_tree.specs.declared.form.Form.{Form}
use Rattle.cob_tree.specs.declared.form.Form.TheVariants.{Group, Text, Number, Edited}
use Rattle.cob_tree.specs.declared.form.Usage.{Usage}
use Rattle.cob_tree.specs.declared.form.Usage.TheVariants.{Display, Leading, Trailing, Binary, Packed}
use Rattle.cob_tree.specs.declared.tree.Tree.{Tree}
use Rattle.cob_data.specs.declared.layout.Item.{Item}
use Rattle.cob_data.specs.declared.description.Description.{Description}
use Rattle.cob_data.specs.declared.description.Spot.{Spot}
use Rattle.cob_data.specs.declared.end.Rule.TheVariants.{L4}
use Rattle.cob_data.specs.Entries.{Placed, is_picture, is_usage, is_sign, text_in, usage_in, kept_as, form_kept_as, pictured_form, description, descriptions, is_condition, all_entries}
use Rattle.cob_data.specs.ItemRules.{is_signed}
use Rattle.cob_data.specs.Rules.{facts_of, item_breaks}
use Rattle.cob_data.specs.Layouts.{item_at, laid_items, layout, HasLayout}
use Rattle.graph_runs.specs.Sources.{HasSignIfSeparate, SeparateItemsHaveSigns}
use Rattle.data_laws.proofs.Pairs.{AllPairs}
use Rattle.data_laws.proofs.Kept.{keeps_item_rules}

-- ---- a separate sign is written as such

abbrev is_separate : Usage → Bool
is_separate Leading = true
is_separate Trailing = true
is_separate _ = false

abbrev is_separate_form : Form → Bool
is_separate_form (Number digits scale signed usage) = is_separate usage
is_separate_form _ = false

from_sign : (usage sign : Option Usage) → is_separate (kept_as usage sign) ≡ true → is_some sign ≡ true
from_sign usage (Some sign) separate = refl
from_sign None None separate = separate
from_sign (Some Display) None separate = separate
from_sign (Some Leading) None separate = separate
from_sign (Some Trailing) None separate = separate
from_sign (Some Binary) None separate = separate
from_sign (Some Packed) None separate = separate

kept_separate : (usage : Usage) (f : Form) → is_separate_form (form_kept_as usage f) ≡ true → is_separate usage ≡ true
kept_separate usage Group separate = absurd (cc)
kept_separate usage (Text n) separate = absurd (cc)
kept_separate usage (Number digits scale signed u) separate = separate
kept_separate usage (Edited picture digits scale) separate = absurd (cc)

abbrev HasWrittenSign : Description → Type 0
HasWrittenSign d = is_separate_form d.form ≡ true → is_some d.sign ≡ true

written_sign : (p : Placed) → HasWrittenSign (description p)
written_sign p separate =
    let clauses = p.entry.clauses in
    let usage = usage_in (find is_usage clauses) in
    let sign = usage_in (find is_sign clauses) in
    from_sign usage sign (kept_separate (kept_as usage sign) (pictured_form (text_in (find is_picture clauses))) separate)

written_signs : (ps : List Placed) → AllByRecursion HasWrittenSign (descriptions ps)
written_signs [] = tt
written_signs (p ∷ ps) = at (is_condition p.entry) (written_signs ps) where
  at : (x : Bool) → AllByRecursion HasWrittenSign (descriptions ps) →
      AllByRecursion HasWrittenSign (if x then descriptions ps else description p ∷ descriptions ps)
  at true others = others
  at false others = (written_sign p, others)

-- ---- the rule on usages

signed_by : (compressed sign signed plain : Bool) → (compressed || (sign && not (signed && plain))) ≡ false → sign ≡ true → signed ≡ true
signed_by compressed sign signed plain kept has = grind arith

has_sign : (f : Form) (compressed sign plain : Bool) → (is_separate_form f ≡ true → sign ≡ true) → (compressed || (sign && not (is_signed f && plain))) ≡ false →
    HasSignIfSeparate f
has_sign Group compressed sign plain written kept = tt
has_sign (Text n) compressed sign plain written kept = tt
has_sign (Number digits scale signed Display) compressed sign plain written kept = tt
has_sign (Number digits scale signed Leading) compressed sign plain written kept = signed_by compressed sign signed plain kept (written refl)
has_sign (Number digits scale signed Trailing) compressed sign plain written kept = signed_by compressed sign signed plain kept (written refl)
has_sign (Number digits scale signed Binary) compressed sign plain written kept = tt
has_sign (Number digits scale signed Packed) compressed sign plain written kept = tt
has_sign (Edited picture digits scale) compressed sign plain written kept = tt

items_have_signs : (ds : List Description) (ss : List Spot) → AllByRecursion HasWrittenSign ds → AllPairs (λ d s. item_breaks L4 d s ≡ false) ds ss →
    All (λ i. HasSignIfSeparate i.form) (laid_items ds ss)
items_have_signs [] ss written kept = All-nil (λ (i : Item). HasSignIfSeparate i.form)
items_have_signs (d ∷ ds) [] written kept = All-nil (λ (i : Item). HasSignIfSeparate i.form)
items_have_signs (d ∷ ds) (s ∷ ss) written kept =
    All-cons (λ (i : Item). HasSignIfSeparate i.form) (item_at d s) (laid_items ds ss)
    (has_sign d.form _ (is_some d.sign) _ written.0 kept.0) (items_have_signs ds ss written.1 kept.1)

pub separate_items_have_signs : (t : Tree) → HasLayout t → SeparateItemsHaveSigns (layout t)
separate_items_have_signs t has =
    let f = facts_of t in
    items_have_signs f.items f.spots (written_signs (all_entries t.front)) (keeps_item_rules t has).usages
