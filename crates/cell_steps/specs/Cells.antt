-- Changes of what is known of cells.
use Rattle.std.specs.Prelude.{ℕ, ◌==◌, not, if◌then◌else◌, Bool, false, List, ◌∷◌, Some, None, is_some}
use Rattle.std.specs.Option.{option_map_or}
use Rattle.cob_data.specs.declared.extent.Extent.{Extent}
use Rattle.cob_data.specs.declared.layout.Layout.{Layout}
use Rattle.cob_data.specs.Extents.{share_extents}
use Rattle.cob_data.specs.Occurrences.{extent_of}
use Rattle.cob_runs.specs.Contents.{item_at, form_at, scale_of}
use Rattle.interval_domain.specs.declared.bounds.Interval.{Interval}
use Rattle.sum_ranges.specs.declared.ranged.Ranged.{Ranged}
use Rattle.sum_ranges.specs.Ranged.{ranged}
use Rattle.interval_domain.specs.Known.{Known}
use Rattle.cob_graph.specs.declared.homes.Home.{Home}
use Rattle.cob_graph.specs.declared.homes.Home.TheVariants.{Item as of_item, Count as of_count}
use Rattle.cob_graph.specs.Homes.{is_home}
use Rattle.cell_steps.specs.OwnRanges.{home_range}
use Rattle.cell_steps.specs.Storages.{known_of}

-- The item is a table's: an OCCURS stands in its entry or above it, also where that counts one occurrence.
abbrev pub is_table : Layout → ℕ → Bool
is_table l place = option_map_or (λ i. not (i.stride == 0)) (item_at l place) false

-- whether a home is known to have a number, which none without a cell is
abbrev pub is_known : List Home → List Known → Home → Bool
is_known homes cells h = is_some (known_of homes cells h)

-- ---- ranges

-- what isn't known has its own range
abbrev pub known_or : Interval → Known → Interval
known_or own None = own
known_or own (Some i) = i

module _ (l : Layout) (homes : List Home) (cells : List Known) where
  abbrev pub units_of : Home → Interval
  units_of h = known_or (home_range l h) (known_of homes cells h)

  -- an item's numbers; one without a cell has those of its form
  abbrev pub range_at : ℕ → Ranged
  range_at place = ranged (units_of (of_item place)) (scale_of (form_at l place))

  abbrev pub is_numeric : ℕ → Bool
  is_numeric place = is_known homes cells (of_item place)

-- ---- changes

-- the first cell that is of a home is known so
abbrev pub with_known : Home → Known → List Home → List Known → List Known
with_known home new (h ∷ hs) (c ∷ cs) = if is_home h home then new ∷ cs else c ∷ with_known home new hs cs
with_known home new _ cs = cs

-- what is known of some homes is forgotten
abbrev pub forgotten : (Home → Bool) → List Home → List Known → List Known
forgotten is_gone (h ∷ hs) (c ∷ cs) = (if is_gone h then None else c) ∷ forgotten is_gone hs cs
forgotten is_gone _ cs = cs

-- ---- bytes in common

-- an occurrence of the home has bytes of an occurrence of the extent; a counter has none
abbrev pub is_in_extent : Layout → Extent → Home → Bool
is_in_extent l e (of_item place) = option_map_or (λ i. share_extents e (extent_of i)) (item_at l place) false
is_in_extent l e (of_count statement) = false

-- a range of bytes, by its offset and its length
abbrev pub bytes_from : ℕ → ℕ → Extent
bytes_from offset count = record { offset = offset; length = count; times = 1; stride = 0 }

-- an occurrence of the home has bytes of one of the item's
abbrev pub is_beside : Layout → ℕ → Home → Bool
is_beside l place h = option_map_or (λ i. is_in_extent l (extent_of i) h) (item_at l place) false
