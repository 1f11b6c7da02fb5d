-- What the data entries of a tree say.
use Rattle.std.specs.Prelude.{length, ℕ, ◌+◌, ◌-◌, ◌*◌, Bool, true, false, ◌==◌, ◌&&◌, if◌then◌else◌, is_some, List, [], ◌∷◌, ◌++◌, map, find, Option, Some, None}
use Rattle.cob_tree.specs.declared.token.Num.{Num}
use Rattle.cob_tree.specs.declared.operand.Const.{Const}
use Rattle.cob_tree.specs.declared.operand.Const.TheVariants as const
use Rattle.cob_tree.specs.declared.form.Form.{Form}
use Rattle.cob_tree.specs.declared.form.Form.TheVariants as form
use Rattle.cob_tree.specs.declared.form.Usage.{Usage}
use Rattle.cob_tree.specs.declared.form.Usage.TheVariants.{Display, Leading, Trailing, Binary, Packed}
use Rattle.cob_tree.specs.declared.front.Front.{Front}
use Rattle.cob_tree.specs.declared.front.Data.{Data}
use Rattle.cob_tree.specs.declared.front.Fd.{Fd}
use Rattle.cob_tree.specs.declared.front.Entry.{Entry}
use Rattle.cob_tree.specs.declared.front.Described.{Described}
use Rattle.cob_tree.specs.declared.front.Described.TheVariants as described
use Rattle.cob_tree.specs.declared.front.Clause.{Clause}
use Rattle.cob_tree.specs.declared.front.Clause.TheVariants as clause
use Rattle.cob_tree.specs.declared.front.Range.{Range}
use Rattle.cob_tree.specs.PictureForms.{picture_form}
use Rattle.cob_tree.specs.Forms.{number_length}
use Rattle.cob_data.specs.declared.layout.Sender.{Sender}
use Rattle.cob_data.specs.declared.layout.Sender.TheVariants as sender
use Rattle.cob_data.specs.declared.description.Area.{Area}
use Rattle.cob_data.specs.declared.description.Area.TheVariants as area
use Rattle.cob_data.specs.declared.description.Span.{Span}
use Rattle.cob_data.specs.declared.description.Description.{Description}
use Rattle.cob_data.specs.declared.description.Condition.{Condition}

-- ---- the parts of an entry

-- the number that two digits write
abbrev pub two_digits : List ℕ → ℕ
two_digits (a ∷ b ∷ []) = 10 * (a - 48) + (b - 48)
two_digits _ = 0

-- a level has two digits, and neither sign nor point; what isn't written so counts as 0
abbrev pub level_of : Num → ℕ
level_of n = if n.sign == 0 && n.scale == 0 then two_digits n.digits else 0

-- FILLER is no name
abbrev pub name_of : Option Described → Option (List ℕ)
name_of (Some (described.Name text)) = Some text
name_of _ = None

abbrev pub is_picture : Clause → Bool
is_picture (clause.Pic text) = true
is_picture _ = false

abbrev pub is_redefines : Clause → Bool
is_redefines (clause.Redefines text) = true
is_redefines _ = false

abbrev pub is_usage : Clause → Bool
is_usage clause.Display = true
is_usage clause.Binary = true
is_usage clause.PackedDecimal = true
is_usage _ = false

abbrev pub is_sign : Clause → Bool
is_sign clause.LeadingSeparate = true
is_sign clause.TrailingSeparate = true
is_sign _ = false

abbrev pub is_value : Clause → Bool
is_value (clause.Value ranges) = true
is_value _ = false

abbrev pub text_in : Option Clause → Option (List ℕ)
text_in (Some (clause.Pic text)) = Some text
text_in (Some (clause.Redefines text)) = Some text
text_in _ = None

abbrev pub usage_in : Option Clause → Option Usage
usage_in (Some clause.Display) = Some Display
usage_in (Some clause.Binary) = Some Binary
usage_in (Some clause.PackedDecimal) = Some Packed
usage_in (Some clause.LeadingSeparate) = Some Leading
usage_in (Some clause.TrailingSeparate) = Some Trailing
usage_in _ = None

abbrev pub sender_of : Const → Sender
sender_of (const.Number n) = sender.Number n
sender_of (const.Text text) = sender.Text text
sender_of const.Zero = sender.Zero
sender_of const.Space = sender.Fill 32
sender_of const.Quote = sender.Fill 34
sender_of const.HighValue = sender.Fill 255
sender_of const.LowValue = sender.Fill 0

abbrev pub sender_if : Option Const → Option Sender
sender_if None = None
sender_if (Some c) = Some (sender_of c)

abbrev pub span_of : Range → Span
span_of r = record { low = sender_of r.low; high = sender_if r.high }

abbrev pub spans_in : Option Clause → Option (List Span)
spans_in (Some (clause.Value ranges)) = Some (map span_of ranges)
spans_in _ = None

-- ---- forms

-- how a number is kept, from its usage and its separate sign as they are written
abbrev pub kept_as : Option Usage → Option Usage → Usage
kept_as (Some Binary) sign = Binary
kept_as (Some Packed) sign = Packed
kept_as _ (Some sign) = sign
kept_as _ None = Display

abbrev pub form_kept_as : Usage → Form → Form
form_kept_as usage (form.Number digits scale signed _) = form.Number digits scale signed usage
form_kept_as usage form.Group = form.Group
form_kept_as usage (form.Text length) = form.Text length
form_kept_as usage (form.Edited picture digits scale) = form.Edited picture digits scale

-- without an allowed picture there is no more than a group's form
abbrev pub form_or_group : Option Form → Form
form_or_group None = form.Group
form_or_group (Some f) = f

abbrev pub pictured_form : Option (List ℕ) → Form
pictured_form None = form.Group
pictured_form (Some text) = form_or_group (picture_form text)

-- ---- bytes of a form

abbrev pub form_bytes : Form → ℕ
form_bytes form.Group = 0
form_bytes (form.Text n) = n
form_bytes (form.Number digits scale signed usage) = number_length digits usage
form_bytes (form.Edited picture digits scale) = length picture

-- ---- entries

-- an entry in its area
pub record Placed : Type 0 where
  pub area : Area
  pub entry : Entry

-- What an entry says. Where a kind of clause stands twice, the first one counts; the grammar allows no second.
abbrev pub description : Placed → Description
description p =
    let clauses = p.entry.clauses in
    let usage = usage_in (find is_usage clauses) in
    let sign = usage_in (find is_sign clauses) in
    let picture = text_in (find is_picture clauses) in
    record {
      area = p.area;
      line = p.entry.line;
      level = level_of p.entry.level;
      name = name_of p.entry.name;
      redefines = text_in (find is_redefines clauses);
      pictured = is_some picture;
      form = form_kept_as (kept_as usage sign) (pictured_form picture);
      bytes = form_bytes (form_kept_as (kept_as usage sign) (pictured_form picture));
      usage = usage;
      sign = sign;
      value = spans_in (find is_value clauses);
    }

-- the values of an entry that has one VALUE and nothing else
abbrev pub only_values : List Clause → Option (List Span)
only_values (clause.Value ranges ∷ []) = Some (map span_of ranges)
only_values _ = None

abbrev pub condition : Entry → Option ℕ → Condition
condition e owner = record { line = e.line; name = name_of e.name; owner = owner; value = only_values e.clauses }

abbrev pub is_condition : Entry → Bool
is_condition e = level_of e.level == 88

abbrev pub same_area : Area → Area → Bool
same_area (area.File a) (area.File b) = a == b
same_area area.Storage area.Storage = true
same_area _ _ = false

-- the last of n items, where it stands in this area
abbrev pub owner_in : Area → ℕ → Option Area → Option ℕ
owner_in here n None = None
owner_in here n (Some last) = if same_area last here then Some (n - 1) else None

-- the items, which are all but the condition-names
abbrev pub descriptions : List Placed → List Description
descriptions [] = []
descriptions (p ∷ ps) = if is_condition p.entry then descriptions ps else description p ∷ descriptions ps

-- the condition-names behind n items, the last of which stands in the area `last`
abbrev pub conditions : ℕ → Option Area → List Placed → List Condition
conditions n last [] = []
conditions n last (p ∷ ps) =
    if is_condition p.entry then condition p.entry (owner_in p.area n last) ∷ conditions n last ps
    else conditions (n + 1) (Some p.area) ps

-- ---- all entries, in the order of the source

abbrev pub list_if : {A : Type 0} → Option (List A) → List A
list_if None = []
list_if (Some xs) = xs

abbrev pub fds_in : Option Data → List Fd
fds_in None = []
fds_in (Some d) = list_if d.files

abbrev pub entries_in : Option Data → List Entry
entries_in None = []
entries_in (Some d) = list_if d.storage

abbrev pub placed : Area → List Entry → List Placed
placed here [] = []
placed here (e ∷ es) = record { area = here; entry = e } ∷ placed here es

-- the entries of the files from the n-th on
abbrev pub file_entries : ℕ → List Fd → List Placed
file_entries n [] = []
file_entries n (f ∷ fs) = placed (area.File n) f.entries ++ file_entries (n + 1) fs

abbrev pub all_entries : Front → List Placed
all_entries f = file_entries 0 (fds_in f.data) ++ placed area.Storage (entries_in f.data)

abbrev pub items_of : Front → List Description
items_of f = descriptions (all_entries f)

abbrev pub conditions_of : Front → List Condition
conditions_of f = conditions 0 None (all_entries f)
