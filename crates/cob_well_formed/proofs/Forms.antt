-- The form and the value of an entry, and that the item has the bytes of this form.
use Rattle.std.proofs.Common.{◌≡◌, ℕ, ◌+◌, ◌≤◌, Bool, true, false, cond, List, [], ◌∷◌, map, Option, Some, None, is_some, IfSome, refl, ◌∙◌, sym, subst}
use Rattle.std.specs.List.{AllByRecursion, find}
use Rattle.std.specs.Option.{option_and_then}
use Rattle.std.proofs.lemmas.Bool.{not-false, and_parts}
use Rattle.cob_tree.specs.declared.form.Form.{Form}
use Rattle.cob_tree.specs.declared.form.Form.TheVariants.{Group, Text, Number, Edited}
use Rattle.cob_tree.specs.declared.form.Usage.{Usage}
use Rattle.cob_tree.specs.declared.front.Clause.{Clause}
use Rattle.cob_tree.specs.declared.front.Clause.TheVariants as clause
use Rattle.cob_tree.specs.declared.front.Range.{Range}
use Rattle.cob_tree.specs.declared.operand.Const.{Const}
use Rattle.cob_tree.specs.declared.operand.Const.TheVariants as const
use Rattle.cob_tree.specs.Pictures.{IsAllowed, AreDigits, HasPlaces}
use Rattle.cob_tree.specs.PictureForms.{picture_form}
use Rattle.cob_tree.proofs.FormLaws.{picture_is_allowed}
use Rattle.cob_data.specs.declared.layout.Layout.{Layout}
use Rattle.cob_data.specs.declared.layout.Sender.{Sender}
use Rattle.cob_data.specs.declared.layout.Sender.TheVariants as sender
use Rattle.cob_data.specs.declared.description.Span.{Span}
use Rattle.cob_data.specs.declared.description.Description.{Description}
use Rattle.cob_data.specs.declared.description.Spot.{Spot}
use Rattle.cob_data.specs.declared.end.Rule.TheVariants.{L2, L3, L5}
use Rattle.cob_data.specs.Entries.{Placed, is_picture, is_usage, is_sign, is_value, text_in, usage_in, spans_in, span_of, sender_of, kept_as, form_kept_as, form_or_group, pictured_form, form_bytes, description, descriptions, is_condition}
use Rattle.cob_data.specs.Values.{has_category, has_room, holds, holds_alone}
use Rattle.cob_data.specs.ItemRules.{breaks_parts, breaks_pictures, breaks_values, may_begin_with, is_formless}
use Rattle.cob_data.specs.Rules.{item_breaks}
use Rattle.cob_data.specs.Layouts.{first_low, item_at}
use Rattle.cob_data.specs.Occurrences.{extent_of}
use Rattle.cob_data.proofs.OneOccurrence.{one_within, one_extent}
use Rattle.cob_store.specs.WellFormed.{IsWellFormedForm, IsShortLiteral, CanMove, IsConstant, IsWellFormedItem}
use Rattle.cob_well_formed.proofs.ShortValues.{IsShortConst, IsShortRange, IsShortClause, IsShortPlaced}
use Rattle.cob_well_formed.proofs.Pairs.{HasOwnBytes}

-- ---- forms of pictures

-- what holds of a form in each entry
abbrev pub IsFormed : Form → Type 0
IsFormed Group = Unit {0}
IsFormed (Text n) = Unit {0}
IsFormed (Number digits scale signed usage) = AreDigits digits scale
IsFormed (Edited picture digits scale) = AreDigits digits scale × HasPlaces picture digits scale

kept_formed : (f : Form) (usage : Usage) → IsAllowed f → IsFormed (form_kept_as usage f)
kept_formed Group usage allowed = tt
kept_formed (Text n) usage allowed = tt
kept_formed (Number digits scale signed kept) usage allowed = allowed
kept_formed (Edited picture digits scale) usage allowed = allowed

found_formed : (text : List ℕ) (o : Option Form) (usage : Usage) → picture_form text ≡ o →
    IsFormed (form_kept_as usage (form_or_group o))
found_formed text None usage e = tt
found_formed text (Some f) usage e = kept_formed f usage (picture_is_allowed text f e)

pictured_formed : (o : Option (List ℕ)) (usage : Usage) → IsFormed (form_kept_as usage (pictured_form o))
pictured_formed None usage = tt
pictured_formed (Some text) usage = found_formed text (picture_form text) usage refl

unpictured_group : (o : Option (List ℕ)) (usage : Usage) → is_some o ≡ false → form_kept_as usage (pictured_form o) ≡ Group
unpictured_group None usage e = refl
unpictured_group (Some text) usage e = absurd (cc)

-- ---- values

-- a number of at most 18 digits, if it's a number
abbrev pub IsShortSender : Sender → Type 0
IsShortSender (sender.Number n) = IsShortLiteral n
IsShortSender _ = Unit {0}

pub short_sender : (c : Const) → IsShortConst c → IsShortSender (sender_of c)
short_sender (const.Number n) short = short
short_sender (const.Text text) short = tt
short_sender const.Zero short = tt
short_sender const.Space short = tt
short_sender const.Quote short = tt
short_sender const.HighValue short = tt
short_sender const.LowValue short = tt

find_short : (test : Clause → Bool) (cs : List Clause) → AllByRecursion IsShortClause cs →
    IfSome (find test cs) IsShortClause
find_short test [] short = tt
find_short test (c ∷ cs) short = at (test c) c (find test cs) short.0 (find_short test cs short.1) where
  at : (x : Bool) (c : Clause) (o : Option Clause) → IsShortClause c → IfSome o IsShortClause →
      IfSome (cond x (Some c) o) IsShortClause
  at true c o here there = here
  at false c o here there = there

short_first : (rs : List Range) → AllByRecursion IsShortRange rs → IfSome (first_low (map span_of rs)) IsShortSender
short_first [] short = tt
short_first (r ∷ rs) short = short_sender r.low short.0.low

short_value : (o : Option Clause) → IfSome o IsShortClause → IfSome (option_and_then first_low (spans_in o)) IsShortSender
short_value None short = tt
short_value (Some (clause.Value ranges)) short = short_first ranges short
short_value (Some (clause.Pic text)) short = tt
short_value (Some (clause.Redefines text)) short = tt
short_value (Some clause.Display) short = tt
short_value (Some clause.Binary) short = tt
short_value (Some clause.PackedDecimal) short = tt
short_value (Some clause.LeadingSeparate) short = tt
short_value (Some clause.TrailingSeparate) short = tt

-- ---- entries

pub record IsFromEntry (d : Description) : Type 0 where
  pub formed : IsFormed d.form
  pub unpictured : d.pictured ≡ false → d.form ≡ Group
  pub whole : d.bytes ≡ form_bytes d.form
  pub short : IfSome (option_and_then first_low d.value) IsShortSender

is_from_entry : (p : Placed) → IsShortPlaced p → IsFromEntry (description p)
is_from_entry p short =
    let clauses = p.entry.clauses in
    let usage = kept_as (usage_in (find is_usage clauses)) (usage_in (find is_sign clauses)) in
    let picture = text_in (find is_picture clauses) in
    record {
      formed = pictured_formed picture usage;
      unpictured = unpictured_group picture usage;
      whole = refl;
      short = short_value (find is_value clauses) (find_short is_value clauses short);
    }

pub are_from_entries : (ps : List Placed) → AllByRecursion IsShortPlaced ps → AllByRecursion IsFromEntry (descriptions ps)
are_from_entries [] short = tt
are_from_entries (p ∷ ps) short = at (is_condition p.entry) p (descriptions ps) (is_from_entry p short.0) (are_from_entries ps short.1) where
  at : (x : Bool) (p : Placed) (ds : List Description) → IsFromEntry (description p) → AllByRecursion IsFromEntry ds →
      AllByRecursion IsFromEntry (cond x ds (description p ∷ ds))
  at true p ds here there = there
  at false p ds here there = (here, there)

-- ---- items

sound_of : (f : Form) → IsFormed f → is_formless f ≡ false → IsWellFormedForm f (form_bytes f)
sound_of Group formed form = absurd (cc)
sound_of (Text n) formed form = refl
sound_of (Number digits scale signed usage) formed form = record {
  number = record { some_digits = formed.some; at_most_18 = formed.at_most_18; whole = refl };
  decimals = formed.decimals;
}
sound_of (Edited picture digits scale) formed form = record {
  places = formed.1.places;
  some_digits = formed.0.some;
  at_most_18 = formed.0.at_most_18;
  decimals = formed.0.decimals;
  whole = refl;
}

-- with parts it has no picture, and without them an allowed one
form_is_sound : (d : Description) (s : Spot) (group pictured : Bool) → s.group ≡ group → d.pictured ≡ pictured →
    IsFromEntry d → HasOwnBytes d s →
    breaks_parts d s ≡ false → breaks_pictures d ≡ false → IsWellFormedForm d.form s.length
form_is_sound d s true true g p from own parts pictures = let h = rw (g, p) at parts in absurd (cc)
form_is_sound d s true false g p from own parts pictures = rw (from.unpictured p) tt
form_is_sound d s false false g p from own parts pictures = let h = rw (g, p) at parts in absurd (cc)
form_is_sound d s false true g p from own parts pictures =
    let formless : is_formless d.form ≡ false = rw p at pictures in
    let bytes : form_bytes d.form ≡ s.length = sym (own g ∙ from.whole) in
    subst (IsWellFormedForm d.form) bytes (sound_of d.form from.formed formless)

-- ---- what items begin with

-- a constant of the item's category can be moved to it
pub low_is_sound : (l : Layout) (f : Form) (x : Sender) → has_category f x ≡ true → IsShortSender x →
    IsConstant x × CanMove l x f
low_is_sound l Group x has short = absurd (cc)
low_is_sound l (Edited picture digits scale) x has short = absurd (cc)
low_is_sound l (Text n) (sender.Item place) has short = absurd (cc)
low_is_sound l (Text n) (sender.Number m) has short = absurd (cc)
low_is_sound l (Text n) (sender.Text text) has short = (tt, λ takes. absurd (cc))
low_is_sound l (Text n) (sender.Fill byte) has short = (tt, λ takes. tt)
low_is_sound l (Text n) sender.Zero has short = (tt, λ takes. tt)
low_is_sound l (Number digits scale signed usage) (sender.Item place) has short = absurd (cc)
low_is_sound l (Number digits scale signed usage) (sender.Number m) has short = (tt, λ takes. short)
low_is_sound l (Number digits scale signed usage) (sender.Text text) has short = absurd (cc)
low_is_sound l (Number digits scale signed usage) (sender.Fill byte) has short = absurd (cc)
low_is_sound l (Number digits scale signed usage) sender.Zero has short = (tt, λ takes. tt)

alone_has_category : (f : Form) (low : Sender) (high : Option Sender) → holds_alone f low high ≡ true →
    has_category f low ≡ true
alone_has_category f low None h = (and_parts (has_category f low) (has_room f low) h).0
alone_has_category f low (Some high) h = absurd (cc)

values_are_sound : (l : Layout) (f : Form) (values : List Span) → holds f values ≡ true →
    IfSome (first_low values) IsShortSender →
    IfSome (first_low values) (λ x. IsConstant x × CanMove l x f)
values_are_sound l f [] h short = tt
values_are_sound l f (s ∷ []) h short = low_is_sound l f s.low (alone_has_category f s.low s.high h) short
values_are_sound l f (s ∷ t ∷ ss) h short = absurd (cc)

value_is_sound : (l : Layout) (d : Description) (s : Spot) (value : Option (List Span)) → d.value ≡ value →
    breaks_values d s ≡ false →
    IfSome (option_and_then first_low value) IsShortSender →
    IfSome (option_and_then first_low value) (λ x. IsConstant x × CanMove l x d.form)
value_is_sound l d s None e kept short = tt
value_is_sound l d s (Some values) e kept short =
    let may : may_begin_with d s values ≡ true = not-false (may_begin_with d s values) (rw e at kept) in
    values_are_sound l d.form values (and_parts _ (holds d.form values) may).1 short

pub item_is_sound : (l : Layout) (d : Description) (s : Spot) → IsFromEntry d → HasOwnBytes d s →
    item_breaks L2 d s ≡ false → item_breaks L3 d s ≡ false → item_breaks L5 d s ≡ false →
    s.start + s.length ≤ l.storage → IsWellFormedItem l (item_at d s)
item_is_sound l d s from own parts pictures values within = record {
  within = one_within (extent_of (item_at d s)) l.storage refl within;
  extent = one_extent (extent_of (item_at d s)) refl;
  one = λ flat. refl;
  form = form_is_sound d s s.group d.pictured refl refl from own parts pictures;
  value = value_is_sound l d s d.value refl values from.short;
}
