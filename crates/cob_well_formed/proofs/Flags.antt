-- Condition-names: their values are those of their item's category.
use Rattle.std.proofs.Common.{◌≡◌, ℕ, ◌+◌, Bool, true, false, not, cond, ◌&&◌, zero, suc, List, [], ◌∷◌, map, slice_get, Option, Some, None, is_some, is_none, unwrap_or, IfSome, refl}
use Rattle.std.specs.List.{All, AllByRecursion}
use Rattle.std.specs.Option.{option_map_or}
use Rattle.std.proofs.lemmas.Bool.{not-false, and_parts}
use Rattle.std.proofs.lemmas.List.Elements.{All-nil, All-cons}
use Rattle.rule_order.specs.Order.{line_if}
use Rattle.cob_tree.specs.declared.form.Form.{Form}
use Rattle.cob_tree.specs.declared.form.Form.TheVariants.{Group}
use Rattle.cob_tree.specs.declared.front.Clause.{Clause}
use Rattle.cob_tree.specs.declared.front.Clause.TheVariants as clause
use Rattle.cob_tree.specs.declared.front.Range.{Range}
use Rattle.cob_tree.specs.declared.operand.Const.{Const}
use Rattle.cob_data.specs.declared.layout.Item.{Item}
use Rattle.cob_data.specs.declared.layout.Layout.{Layout}
use Rattle.cob_data.specs.declared.layout.Sender.{Sender}
use Rattle.cob_data.specs.declared.layout.Sender.TheVariants as sender
use Rattle.cob_data.specs.declared.description.Area.{Area}
use Rattle.cob_data.specs.declared.description.Span.{Span}
use Rattle.cob_data.specs.declared.description.Condition.{Condition}
use Rattle.cob_data.specs.declared.description.Description.{Description}
use Rattle.cob_data.specs.declared.description.Spot.{Spot}
use Rattle.cob_data.specs.declared.end.Rule.TheVariants.{L1, L7}
use Rattle.cob_data.specs.Entries.{Placed, span_of, sender_of, sender_if, only_values, condition, conditions, is_condition, owner_in}
use Rattle.cob_data.specs.Values.{has_category, at_most}
use Rattle.cob_data.specs.ItemRules.{elementary_form, is_range_of, is_span_of, are_values_of, is_condition_of}
use Rattle.cob_data.specs.ItemRules as rules
use Rattle.cob_data.specs.Rules.{Facts, condition_breaks, condition_lines}
use Rattle.cob_data.specs.Layouts.{laid_items, pair_of, flag_of, layout_in}
use Rattle.cob_typed_verbs.specs.Verbs.{first_value}
use Rattle.cob_store.specs.WellFormed.{CanMove}
use Rattle.cob_calc.specs.Comparing.{IsShortEnd, AreShortPairs}
use Rattle.cob_well_formed.specs.Layouts.{IsWellFormedFlag}
use Rattle.cob_well_formed.proofs.ShortValues.{IsShortConst, IsShortRange, IsShortClause, IsShortPlaced}
use Rattle.cob_well_formed.proofs.Forms.{IsShortSender, short_sender, low_is_sound}

-- ---- values are short

pub sound_end : (x : Sender) → IsShortSender x → IsShortEnd x
sound_end (sender.Number n) short = short
sound_end (sender.Item place) short = tt
sound_end (sender.Text text) short = tt
sound_end (sender.Fill byte) short = tt
sound_end sender.Zero short = tt

short_high : (low : Sender) (o : Option Const) → IsShortSender low → IfSome o IsShortConst →
    IsShortSender (unwrap_or (sender_if o) low)
short_high low None first second = first
short_high low (Some c) first second = short_sender c second

pub record IsShortSpan (s : Span) : Type 0 where
  pub low : IsShortSender s.low
  pub high : IsShortSender (unwrap_or s.high s.low)

short_span : (r : Range) → IsShortRange r → IsShortSpan (span_of r)
short_span r short =
    let first = short_sender r.low short.low in
    record { low = first; high = short_high (sender_of r.low) r.high first short.high }

abbrev pub AreShortSpans : List Span → Type 0
AreShortSpans ss = AllByRecursion IsShortSpan ss

short_spans : (rs : List Range) → AllByRecursion IsShortRange rs → AreShortSpans (map span_of rs)
short_spans [] short = tt
short_spans (r ∷ rs) short = (short_span r short.0, short_spans rs short.1)

abbrev pub IsShortCondition : Condition → Type 0
IsShortCondition c = IfSome c.value AreShortSpans

only_short : (cs : List Clause) → AllByRecursion IsShortClause cs → IfSome (only_values cs) AreShortSpans
only_short [] short = tt
only_short (clause.Value ranges ∷ []) short = short_spans ranges short.0
only_short (clause.Value ranges ∷ c ∷ cs) short = tt
only_short (clause.Pic text ∷ cs) short = tt
only_short (clause.Redefines text ∷ cs) short = tt
only_short (clause.Display ∷ cs) short = tt
only_short (clause.Binary ∷ cs) short = tt
only_short (clause.PackedDecimal ∷ cs) short = tt
only_short (clause.LeadingSeparate ∷ cs) short = tt
only_short (clause.TrailingSeparate ∷ cs) short = tt

pub short_conditions : (n : ℕ) (last : Option Area) (ps : List Placed) → AllByRecursion IsShortPlaced ps →
    AllByRecursion IsShortCondition (conditions n last ps)
short_conditions n last [] short = tt
short_conditions n last (p ∷ ps) short =
    at (is_condition p.entry) n last p ps (only_short p.entry.clauses short.0) (short_conditions n last ps short.1) (short_conditions (n + 1) (Some p.area) ps short.1) where
      at : (x : Bool) (n : ℕ) (last : Option Area) (p : Placed) (ps : List Placed) →
          IfSome (only_values p.entry.clauses) AreShortSpans →
          AllByRecursion IsShortCondition (conditions n last ps) →
          AllByRecursion IsShortCondition (conditions (n + 1) (Some p.area) ps) →
          AllByRecursion IsShortCondition (cond x (condition p.entry (owner_in p.area n last) ∷ conditions n last ps) (conditions (n + 1) (Some p.area) ps))
      at true n last p ps here beside later = (here, beside)
      at false n last p ps here beside later = later

sound_pairs : (ss : List Span) → AreShortSpans ss → AreShortPairs (map pair_of ss)
sound_pairs [] short = tt
sound_pairs (s ∷ ss) short =
    let low = sound_end s.low short.0.low in
    let high = sound_end (unwrap_or s.high s.low) short.0.high in
    ((low, high), sound_pairs ss short.1)

-- ---- the first value is of the item's category

first_category : (f : Form) (low : Sender) (high : Option Sender) → is_range_of f low high ≡ true →
    has_category f low ≡ true
first_category f low None e = e
first_category f low (Some high) e =
    (and_parts (has_category f low) (has_category f high) (and_parts (has_category f low && has_category f high) (at_most low high) e).0).0

no_category : (x : Sender) → has_category Group x ≡ true → ⊥
no_category x e = cc

abbrev form_in : List Item → ℕ → Form
form_in items place = option_map_or (λ i. i.form) (slice_get items place) Group

none_elementary : (ds : List Description) (place : ℕ) (x : Sender) →
    has_category (elementary_form (slice_get ds place) None) x ≡ true → ⊥
none_elementary [] place x e = no_category x e
none_elementary (d ∷ ds) zero x e = no_category x e
none_elementary (d ∷ ds) (suc place) x e = none_elementary ds place x e

held_alone : (l : Layout) (d : Description) (group : Bool) (x : Sender) → has_category (cond group Group d.form) x ≡ true →
    IsShortSender x → CanMove l x d.form
held_alone l d true x h short = absurd (no_category x h)
held_alone l d false x h short = (low_is_sound l d.form x h short).1

-- the form that the rules on condition-names see is that of the layout, or a group's
same_form : (l : Layout) (ds : List Description) (ss : List Spot) (place : ℕ) (x : Sender) →
    has_category (rules.form_at ds ss place) x ≡ true → IsShortSender x →
    CanMove l x (form_in (laid_items ds ss) place)
same_form l [] ss place x has short = absurd (no_category x has)
same_form l (d ∷ ds) [] place x has short = absurd (none_elementary (d ∷ ds) place x has)
same_form l (d ∷ ds) (s ∷ ss) zero x has short = held_alone l d s.group x has short
same_form l (d ∷ ds) (s ∷ ss) (suc place) x has short = same_form l ds ss place x has short

first_sound : (l : Layout) (ds : List Description) (ss : List Spot) (place : ℕ) (value : Option (List Span)) →
    are_values_of (rules.form_at ds ss place) value ≡ true → IfSome value AreShortSpans →
    CanMove l (first_value (map pair_of (unwrap_or value []))) (form_in (laid_items ds ss) place)
first_sound l ds ss place None e short = absurd (cc)
first_sound l ds ss place (Some []) e short = λ takes. tt
first_sound l ds ss place (Some (s ∷ more)) e short =
    let f = rules.form_at ds ss place in
    same_form l ds ss place s.low (first_category f s.low s.high (and_parts (is_span_of f s) _ e).0) short.0.low

pairs_of : (value : Option (List Span)) → IfSome value AreShortSpans → AreShortPairs (map pair_of (unwrap_or value []))
pairs_of None short = tt
pairs_of (Some ss) short = sound_pairs ss short

module _ (f : Facts) where
  flag_sound : (c : Condition) (owner : Option ℕ) → c.owner ≡ owner → condition_breaks L1 f c ≡ false →
      condition_breaks L7 f c ≡ false → IsShortCondition c →
      IsWellFormedFlag (layout_in f) (flag_of c)
  flag_sound c None e stray breaks short = let h : is_none c.owner ≡ false = stray in let g : is_none {T = ℕ} None ≡ false = rw e at h in absurd (cc)
  flag_sound c (Some place) e stray breaks short =
      let kept : not (is_condition_of (rules.form_at f.items f.spots place) c) ≡ false = rw e at (breaks) in
      let is = not-false (is_condition_of (rules.form_at f.items f.spots place) c) kept in
      let values = (and_parts (is_some c.name) (are_values_of (rules.form_at f.items f.spots place) c.value) is).1 in
      record {
        ranges = pairs_of c.value short;
        first = rw e (first_sound (layout_in f) f.items f.spots place c.value values short);
      }

  line_kept : (x : Bool) (line : ℕ) (others : List ℕ) → line_if x line others ≡ [] → (x ≡ false) × (others ≡ [])
  line_kept true line others e = absurd (cc)
  line_kept false line others e = (refl, e)

  pub flags_sound : (cs : List Condition) → condition_lines L1 f cs ≡ [] → condition_lines L7 f cs ≡ [] →
      AllByRecursion IsShortCondition cs → All (IsWellFormedFlag (layout_in f)) (map flag_of cs)
  flags_sound [] first second short = All-nil (IsWellFormedFlag (layout_in f))
  flags_sound (c ∷ cs) first second short =
      let a = line_kept (condition_breaks L1 f c) c.line (condition_lines L1 f cs) first in
      let b = line_kept (condition_breaks L7 f c) c.line (condition_lines L7 f cs) second in
      All-cons (IsWellFormedFlag (layout_in f)) (flag_of c) (map flag_of cs) (flag_sound c c.owner refl a.0 b.0 short.0) (flags_sound cs a.1 b.1 short.1)
