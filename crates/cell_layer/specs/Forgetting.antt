-- What is known of items is forgotten, by the items of cells or by marks.
use Rattle.std.specs.Prelude.{◌≡◌, ℕ, if◌then◌else◌, Bool, false, List, [], ◌∷◌, map, slice_get, slice_set, Option, Some, None, Vec}
use Rattle.std.specs.Option.{option_map_or}
use Rattle.std.specs.declared.alloc.Global.{Global}
use Rattle.cob_data.specs.declared.extent.Extent.{Extent}
use Rattle.cob_data.specs.declared.layout.Item.{Item}
use Rattle.cob_data.specs.Extents.{share_extents}
use Rattle.cob_data.specs.Occurrences.{extent_of}
use Rattle.cob_program.specs.Act.{Program}
use Rattle.cob_runs.specs.declared.action.Cell.{Cell}
use Rattle.interval_domain.specs.Known.{Known}

-- whether some occurrence of an item has bytes of an extent's; a counter has none
abbrev pub has_bytes : List Item → Extent → Option ℕ → Bool
has_bytes items e None = false
has_bytes items e (Some place) = option_map_or (λ i. share_extents e (extent_of i)) (slice_get items place) false

abbrev pub forgotten_by : {A : Type 0} → (A → Bool) → List A → List Known → List Known
forgotten_by is_gone (o ∷ os) (c ∷ cs) = (if is_gone o then None else c) ∷ forgotten_by is_gone os cs
forgotten_by is_gone _ cs = cs

-- the cell with a number, if it is gone
abbrev pub forgotten_at : List Known → ℕ → Bool → List Known
forgotten_at cells k gone = if gone then slice_set cells k None else cells

-- ---- marks

-- the cells that have bytes of an extent, as a row of marks
abbrev pub marks_of : List Item → Extent → List Cell → List Bool
marks_of items e cells = map (λ c. has_bytes items e c.item) cells

-- those that have bytes of a cell's item; a counter has none
abbrev pub cell_marks : List Item → List Cell → Option ℕ → List Bool
cell_marks items cells None = []
cell_marks items cells (Some place) = option_map_or (λ i. marks_of items (extent_of i) cells) (slice_get items place) []

-- a row for each cell
abbrev pub all_marks : List Item → List Cell → List (List Bool)
all_marks items cells = map (λ c. cell_marks items cells c.item) cells

abbrev pub lists_in : List (Vec Bool Global) → List (List Bool)
lists_in rows = map (λ row. row.items) rows

-- these are the rows of a program's cells
abbrev pub AreMarks : Program → List Cell → List (Vec Bool Global) → Type 0
AreMarks p cells rows = lists_in rows ≡ all_marks p.layout.items cells
