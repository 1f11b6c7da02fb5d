-- What storage holds at the beginning of a run (ISO 1989:1985, "VALUE clause").
use Rattle.std.specs.Prelude.{◌≡◌, ◌<◌, ℕ, List, [], length, Ok}
use Rattle.cob_data.specs.declared.layout.Item.{Item}
use Rattle.cob_data.specs.declared.layout.Layout.{Layout}
use Rattle.cob_store.specs.WellFormed.{HasWellFormedItems}
use Rattle.cob_runs.specs.Contents.{occurrence_bytes, number_in, occurrence_number}
use Rattle.cob_runs.specs.Moves.{moved}
use Rattle.cob_runs.specs.Runs.{first_storage}
use Rattle.graph_runs.specs.Sources.{HasValue, ValuesStandApart}

-- the item at a place begins with a value, which a MOVE puts as these bytes
pub record BeginsWith (l : Layout) (place : ℕ) (i : Item) (bytes : List ℕ) : Type 0 where
  pub has : HasValue l place i
  pub put : moved l [] i.form i.length has.value ≡ Ok bytes

-- Whatever stood in storage before, the first storage is as long as the layout says.
abbrev pub FirstStorageIsWhole : Type 0
FirstStorageIsWhole = (l : Layout) (first : List ℕ) → HasWellFormedItems l → length (first_storage l first) ≡ l.storage

-- In the first storage each occurrence of an item that begins with a value holds the value's bytes.
abbrev pub ValuesStandAtFirst : Type 0
ValuesStandAtFirst =
    (l : Layout) (first : List ℕ) (place : ℕ) (i : Item) (bytes : List ℕ) → HasWellFormedItems l → ValuesStandApart l →
    BeginsWith l place i bytes → (n : ℕ) → n < i.times → occurrence_bytes l (first_storage l first) place n ≡ bytes

-- And it reads as the number of the value's bytes, if they are one.
abbrev pub ValuesReadAtFirst : Type 0
ValuesReadAtFirst =
    (l : Layout) (first : List ℕ) (place : ℕ) (i : Item) (bytes : List ℕ) → HasWellFormedItems l → ValuesStandApart l →
    BeginsWith l place i bytes → (n : ℕ) → n < i.times →
    occurrence_number l (first_storage l first) place n ≡ number_in i.form bytes
