-- That a part changes the bytes of its range alone.
use Rattle.std.specs.Prelude.{◌≡◌, ◌<◌, ◌≤◌, ℕ, ◌+◌, false, List, length, Option, Some}
use Rattle.cob_data.specs.declared.extent.Extent.{Extent}
use Rattle.cob_data.specs.declared.layout.Item.{Item}
use Rattle.cob_data.specs.declared.layout.Layout.{Layout}
use Rattle.cob_data.specs.Extents.{start_of, AreApart, share_extents, IsExtent, LiesWithin}
use Rattle.cob_data.specs.Occurrences.{extent_of}
use Rattle.cob_runs.specs.Contents.{area, item_at, occurrence_filled}
use Rattle.cob_edge_parts.specs.Meaning.{changed_in}

-- storage is as long as before, and each area apart from the range is as before
pub record ChangesWithin (offset count : ℕ) (before behind : List ℕ) : Type 0 where
  pub same_length : length behind ≡ length before
  pub elsewhere : (from many : ℕ) → AreApart offset count from many → area behind from many ≡ area before from many

-- an area that changes
abbrev pub RangesChangeAlone : Type 0
RangesChangeAlone = (change : Option (List ℕ)) (offset count : ℕ) (storage : List ℕ) → offset + count ≤ length storage →
    ChangesWithin offset count storage (changed_in change offset count storage)

-- an occurrence that gets as many bytes as it has: the others stay, and those of each item that shares no byte
pub record GetsItsBytes (e : Extent) (n : ℕ) (bytes before behind : List ℕ) : Type 0 where
  pub changes : ChangesWithin (start_of e n) e.length before behind
  pub siblings : (m : ℕ) → m < e.times → ¬ m ≡ n →
      area behind (start_of e m) e.length ≡ area before (start_of e m) e.length
  pub others : (d : Extent) → share_extents e d ≡ false → (m : ℕ) → m < d.times →
      area behind (start_of d m) d.length ≡ area before (start_of d m) d.length
  pub held : area behind (start_of e n) e.length ≡ bytes

abbrev pub OccurrencesChangeAlone : Type 0
OccurrencesChangeAlone = (l : Layout) (storage : List ℕ) (place : ℕ) (i : Item) (n : ℕ) (bytes : List ℕ) →
    item_at l place ≡ Some i → IsExtent (extent_of i) → LiesWithin (extent_of i) (length storage) → n < i.times →
    length bytes ≡ i.length → GetsItsBytes (extent_of i) n bytes storage (occurrence_filled l storage place n bytes)
