-- What items hold, and how numbers go into them.
use Rattle.std.specs.Prelude.{ℕ, ◌+◌, ◌^◌, nat_lt, if◌then◌else◌, Bool, true, false, List, [], ◌++◌, length, take, drop, replicate, slice_get, Option, Some, None, ℤ, pos, unsigned_abs}
use Rattle.std.specs.Option.{option_map, option_map_or}
use Rattle.dec_num.specs.declared.types.Mode.{Mode}
use Rattle.dec_num.specs.declared.types.Scaled.{Scaled}
use Rattle.dec_num.specs.Exact.{Fraction, near}
use Rattle.cob_tree.specs.declared.form.Form.{Form}
use Rattle.cob_tree.specs.declared.form.Form.TheVariants as form
use Rattle.cob_data.specs.declared.layout.Item.{Item}
use Rattle.cob_data.specs.declared.layout.Layout.{Layout}
use Rattle.cob_data.specs.Extents.{start_of}
use Rattle.cob_data.specs.Occurrences.{extent_of}
use Rattle.num_bytes.specs.Reading.{contents_value}
use Rattle.num_bytes.specs.Writing.{contents_bytes}
use Rattle.num_bytes.specs.Editing.{edit_bytes}

-- ---- bytes of storage

abbrev pub area : List ℕ → ℕ → ℕ → List ℕ
area storage offset count = take count (drop offset storage)

-- storage with these bytes from a place on
abbrev pub written : List ℕ → ℕ → List ℕ → List ℕ
written storage offset bytes = take offset storage ++ bytes ++ drop (offset + length bytes) storage

-- A text as so many bytes: cut on the right, or filled with spaces there.
abbrev pub fitted : ℕ → List ℕ → List ℕ
fitted n bytes = take n (bytes ++ replicate n 32)

-- ---- items

module _ (l : Layout) where
  abbrev pub item_at : ℕ → Option Item
  item_at place = slice_get l.items place

  abbrev pub form_at : ℕ → Form
  form_at place = option_map_or (λ i. i.form) (item_at place) form.Group

  abbrev pub length_at : ℕ → ℕ
  length_at place = option_map_or (λ i. i.length) (item_at place) 0

  -- how many occurrences it has; they are numbered from 0
  abbrev pub times_at : ℕ → ℕ
  times_at place = option_map_or (λ i. i.times) (item_at place) 1

  abbrev pub occurrence_bytes : List ℕ → ℕ → ℕ → List ℕ
  occurrence_bytes storage place n =
      option_map_or (λ i. area storage (start_of (extent_of i) n) i.length) (item_at place) []

  -- storage in which an occurrence of the item holds these bytes
  abbrev pub occurrence_filled : List ℕ → ℕ → ℕ → List ℕ → List ℕ
  occurrence_filled storage place n bytes =
      option_map_or (λ i. written storage (start_of (extent_of i) n) bytes) (item_at place) storage

  -- of an item that is no table's
  abbrev pub bytes_at : List ℕ → ℕ → List ℕ
  bytes_at storage place = occurrence_bytes storage place 0

  abbrev pub filled_at : List ℕ → ℕ → List ℕ → List ℕ
  filled_at storage place bytes = occurrence_filled storage place 0 bytes

-- ---- numbers in items

abbrev pub digits_of : Form → ℕ
digits_of (form.Number digits scale signed kept) = digits
digits_of (form.Edited picture digits scale) = digits
digits_of _ = 0

abbrev pub scale_of : Form → ℕ
scale_of (form.Number digits scale signed kept) = scale
scale_of (form.Edited picture digits scale) = scale
scale_of _ = 0

abbrev pub scaled_by : ℕ → ℤ → Scaled
scaled_by scale units = record { units = units; scale = scale }

-- the number that contents are read as, if they are numeric
abbrev pub number_in : Form → List ℕ → Option Scaled
number_in f bytes = option_map (scaled_by (scale_of f)) (contents_value f bytes)

abbrev pub occurrence_number : Layout → List ℕ → ℕ → ℕ → Option Scaled
occurrence_number l storage place n = number_in (form_at l place) (occurrence_bytes l storage place n)

abbrev pub number_at : Layout → List ℕ → ℕ → Option Scaled
number_at l storage place = occurrence_number l storage place 0

-- an item without a sign gets the absolute value
abbrev pub bytes_of : Form → ℤ → List ℕ
bytes_of (form.Number digits scale true kept) units = contents_bytes (form.Number digits scale true kept) units
bytes_of (form.Number digits scale false kept) units = contents_bytes (form.Number digits scale false kept) (pos (unsigned_abs units))
bytes_of (form.Edited picture digits scale) units = edit_bytes (form.Edited picture digits scale) (pos (unsigned_abs units))
bytes_of _ units = []

abbrev pub if_held : Form → ℤ → Option (List ℕ)
if_held f units = if nat_lt (unsigned_abs units) (10 ^ digits_of f) then Some (bytes_of f units) else None

-- The bytes of a value at the item's scale; nothing where the item's digits don't hold it.
abbrev pub stored : Mode → Form → Fraction → Option (List ℕ)
stored mode f v = if_held f (near mode v (pos (scale_of f)))
