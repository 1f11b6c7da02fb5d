-- The rules on items and condition-names.
use Rattle.std.specs.Prelude.{ℕ, Bool, true, false, not, ◌&&◌, ◌||◌, ◌==◌, nat_le, if◌then◌else◌, is_some, is_none, List, slice_get, Option, Some, None}
use Rattle.std.specs.List.{list_all}
use Rattle.cob_tree.specs.declared.form.Form.{Form}
use Rattle.cob_tree.specs.declared.form.Form.TheVariants as form
use Rattle.cob_tree.specs.declared.form.Usage.{Usage}
use Rattle.cob_tree.specs.declared.form.Usage.TheVariants.{Binary, Packed}
use Rattle.cob_data.specs.declared.description.Area.{Area}
use Rattle.cob_data.specs.declared.description.Span.{Span}
use Rattle.cob_data.specs.declared.description.Description.{Description}
use Rattle.cob_data.specs.declared.description.Condition.{Condition}
use Rattle.cob_data.specs.declared.description.Spot.{Spot}
use Rattle.cob_data.specs.declared.layout.Sender.{Sender}
use Rattle.cob_data.specs.Entries.{same_area}
use Rattle.cob_data.specs.Spots.{is_file}
use Rattle.cob_data.specs.Values.{has_category, holds, at_most}

-- ---- levels: records begin with 01, or 77 in working storage; the others are 02 to 49; a 77 has no item below it

abbrev pub begins_record : Description → Bool
begins_record d = d.level == 1 || (d.level == 77 && not (is_file d.area))

abbrev pub is_under_01 : Area → Option Area → Bool
is_under_01 here None = false
is_under_01 here (Some record_area) = same_area record_area here

abbrev pub breaks_levels : Description → Spot → Bool
breaks_levels d s = not (begins_record d || (nat_le 2 d.level && nat_le d.level 49 && is_under_01 d.area s.under))

-- a condition-name stands behind an item
abbrev pub is_stray : Condition → Bool
is_stray c = is_none c.owner

-- ---- parts: an item with items below has no PIC, usage, SIGN, VALUE; any other has a PIC

abbrev pub breaks_parts : Description → Spot → Bool
breaks_parts d s =
    if s.group then d.pictured || is_some d.usage || is_some d.sign || is_some d.value
    else not d.pictured

-- ---- pictures: each is an allowed one

abbrev pub is_formless : Form → Bool
is_formless form.Group = true
is_formless _ = false

abbrev pub breaks_pictures : Description → Bool
breaks_pictures d = d.pictured && is_formless d.form

-- ---- usages: BINARY and PACKED-DECIMAL with a numeric picture; SEPARATE with S and DISPLAY

abbrev pub is_compressed : Option Usage → Bool
is_compressed (Some Binary) = true
is_compressed (Some Packed) = true
is_compressed _ = false

abbrev pub is_numeric : Form → Bool
is_numeric (form.Number _ _ _ _) = true
is_numeric _ = false

abbrev pub is_signed : Form → Bool
is_signed (form.Number _ _ signed _) = signed
is_signed _ = false

abbrev pub breaks_usages : Description → Bool
breaks_usages d =
    (is_compressed d.usage && not (is_numeric d.form))
    || (is_some d.sign && not (is_signed d.form && not (is_compressed d.usage)))

-- ---- values: one constant of the item's category that fits without loss; none on edited items, in the FILE SECTION,
-- or in a redefinition

abbrev pub may_begin_with : Description → Spot → List Span → Bool
may_begin_with d s values = not (is_file d.area) && not s.shared && holds d.form values

abbrev pub breaks_values : Description → Spot → Bool
breaks_values d s = breaks d s d.value where
  breaks : Description → Spot → Option (List Span) → Bool
  breaks d s None = false
  breaks d s (Some values) = not (may_begin_with d s values)

-- ---- redefinitions: of the item directly before at the same level, or of what that redefines; below 01 it isn't
-- longer; never on 01 in the FILE SECTION

abbrev pub is_top : Description → Bool
is_top d = d.level == 1 || d.level == 77

abbrev pub has_room : Description → ℕ → Option ℕ → Bool
has_room d bytes None = false
has_room d bytes (Some room) = is_top d || nat_le bytes room

abbrev pub may_redefine : Description → Spot → Bool
may_redefine d s = not (d.level == 1 && is_file d.area) && has_room d s.length s.room

abbrev pub breaks_redefinitions : Description → Spot → Bool
breaks_redefinitions d s = is_some d.redefines && not (may_redefine d s)

-- ---- condition-names: a name, a VALUE and no other clause; behind a numeric or alphanumeric elementary item or its
-- condition-names; values of its category; a range's first value is at most its second

-- the form of an elementary item, else a group's
abbrev pub elementary_form : Option Description → Option Spot → Form
elementary_form (Some d) (Some s) = if s.group then form.Group else d.form
elementary_form _ _ = form.Group

abbrev pub form_at : List Description → List Spot → ℕ → Form
form_at ds ss place = elementary_form (slice_get ds place) (slice_get ss place)

abbrev pub is_range_of : Form → Sender → Option Sender → Bool
is_range_of f low None = has_category f low
is_range_of f low (Some high) = has_category f low && has_category f high && at_most low high

abbrev pub is_span_of : Form → Span → Bool
is_span_of f s = is_range_of f s.low s.high

abbrev pub are_values_of : Form → Option (List Span) → Bool
are_values_of f None = false
are_values_of f (Some spans) = list_all (is_span_of f) spans

abbrev pub is_condition_of : Form → Condition → Bool
is_condition_of f c = is_some c.name && are_values_of f c.value

abbrev pub breaks_conditions : List Description → List Spot → Condition → Bool
breaks_conditions ds ss c = breaks ds ss c c.owner where
  breaks : List Description → List Spot → Condition → Option ℕ → Bool
  breaks ds ss c None = false
  breaks ds ss c (Some place) = not (is_condition_of (form_at ds ss place) c)
