-- What an analysis of cells needs of a program's data.
use Rattle.std.specs.Prelude.{◌≡◌, ◌<◌, ℕ, ◌^◌, Bool, true, false, List, length, ℤ, unsigned_abs, Some, if◌then◌else◌, pos}
use Rattle.cob_tree.specs.declared.form.Usage.{Usage}
use Rattle.cob_tree.specs.declared.form.Form.TheVariants as form
use Rattle.cob_data.specs.declared.layout.Item.{Item}
use Rattle.cob_data.specs.declared.layout.Layout.{Layout}
use Rattle.num_bytes.specs.Reading.{contents_value}
use Rattle.cob_data.specs.Extents.{IsExtent, LiesWithin}
use Rattle.cob_data.specs.Occurrences.{extent_of}
use Rattle.cob_runs.specs.Contents.{item_at, form_at, times_at, occurrence_bytes, bytes_of, digits_of}
use Rattle.cob_runs.specs.Moves.{takes_number}
use Rattle.interval_domain.specs.Bounds.{Holds}
use Rattle.cell_steps.specs.OwnRanges.{form_range}
use Rattle.cell_steps.specs.Cells.{is_table}

pub record HasSoundItems (l : Layout) : Type 0 where
  -- each occurrence of an item lies within storage, and ends before the next one begins
  pub within : (place : ℕ) (i : Item) → item_at l place ≡ Some i → LiesWithin (extent_of i) l.storage
  pub extent : (place : ℕ) (i : Item) → item_at l place ≡ Some i → IsExtent (extent_of i)
  -- what is no table's has one
  pub one : (place : ℕ) → is_table l place ≡ false → times_at l place ≡ 1
  -- the number that an occurrence holds lies in the item's own range
  pub own : (place n : ℕ) (bytes : List ℕ) (z : ℤ) → length bytes ≡ l.storage → n < times_at l place
      → contents_value (form_at l place) (occurrence_bytes l bytes place n) ≡ Some z → Holds (form_range (form_at l place)) z
  -- the bytes of a number that it has room for are as many as its own
  pub whole : (place : ℕ) (i : Item) (z : ℤ) → item_at l place ≡ Some i → takes_number i.form ≡ true
      → unsigned_abs z < 10 ^ digits_of i.form → length (bytes_of i.form z) ≡ i.length
  -- the bytes of such a number are read as that number, or as its absolute value where the item has no sign
  pub back : (place digits scale : ℕ) (signed : Bool) (usage : Usage) (z : ℤ) → form_at l place ≡ form.Number digits scale signed usage
      → unsigned_abs z < 10 ^ digits
      → contents_value (form_at l place) (bytes_of (form_at l place) z) ≡ Some (if signed then z else pos (unsigned_abs z))
