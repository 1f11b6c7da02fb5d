-- Where each item lies.
use Rattle.std.specs.Prelude.{ℕ, ◌+◌, max, Bool, true, false, not, ◌&&◌, ◌||◌, ◌==◌, if◌then◌else◌, is_some, is_none, List, [], ◌∷◌, ◌++◌, fold, Option, Some, None}
use Rattle.std.specs.Str.{bytes_eq}
use Rattle.cob_data.specs.declared.description.Area.{Area}
use Rattle.cob_data.specs.declared.description.Area.TheVariants as area
use Rattle.cob_data.specs.declared.description.Description.{Description}
use Rattle.cob_data.specs.declared.description.Spot.{Spot}
use Rattle.cob_data.specs.declared.description.Above.{Above}
use Rattle.cob_data.specs.Entries.{same_area}
use Rattle.cob_data.specs.Lengths.{Forest, bare, item, forest, size, item_bytes}

abbrev pub same_name : Option (List ℕ) → Option (List ℕ) → Bool
same_name (Some a) (Some b) = bytes_eq a b
same_name _ _ = false

abbrev pub is_file : Area → Bool
is_file (area.File n) = true
is_file area.Storage = false

-- the item directly before, with where it lies
pub record Neighbour : Type 0 where
  pub item : Description
  pub spot : Spot

abbrev pub is_record : Above → Bool
is_record above = is_none above.parent

-- ---- what an item redefines

abbrev pub same_level : Description → Description → Bool
same_level d e = d.level == e.level && same_area d.area e.area

-- The length of what an item redefines: that is the item directly before at the same level, or what this one
-- redefines. Nothing where it names neither.
abbrev pub room_behind : Description → Option Neighbour → Option ℕ
room_behind d None = None
room_behind d (Some before) =
    if not (same_level d before.item) then None
    else if same_name d.redefines before.item.name then Some before.spot.length
    else if same_name d.redefines before.item.redefines then before.spot.room
    else None

-- ---- where an item starts

-- An item lies on the one before where it redefines, and so do the records of one file.
abbrev pub lies_on : Above → Description → Neighbour → Bool
lies_on above d before =
    is_some d.redefines || (is_record above && is_file d.area && same_area d.area before.item.area)

abbrev pub lies_on_last : Above → Description → Option Neighbour → Bool
lies_on_last above d None = false
lies_on_last above d (Some before) = lies_on above d before

-- An item starts where the one that it lies on starts, or else where all before it end.
abbrev pub start_at : Above → ℕ → Description → Option Neighbour → ℕ
start_at above next d None = next
start_at above next d (Some before) = if lies_on above d before then before.spot.start else next

-- The end of all up to this item. In a group, what redefines adds nothing; among records the longest counts.
abbrev pub end_behind : Above → ℕ → Bool → Spot → ℕ
end_behind above next on_last s =
    if not on_last then s.end
    else if is_record above then max next s.end
    else next

-- ---- all items

-- the area of the 01 that an item belongs to
abbrev pub area_above : Above → Description → Option Area
area_above above d =
    if not (is_record above) then above.under
    else if d.level == 1 then Some d.area
    else None

abbrev pub is_bare : Forest → Bool
is_bare bare = true
is_bare (item _ _ _) = false

abbrev pub spot : Above → ℕ → Option Neighbour → Description → Forest → Spot
spot above next last d below = record {
  start = start_at above next d last;
  length = item_bytes d below;
  end = start_at above next d last + item_bytes d below;
  parent = above.parent;
  under = area_above above d;
  room = room_behind d last;
  group = not (is_bare below);
  shared = above.shared || is_some d.redefines;
}

abbrev pub above_parts : ℕ → Spot → Above
above_parts place s = record { parent = Some place; under = s.under; shared = s.shared }

-- The items side by side from this place on, each before the items below it.
abbrev pub spots : Above → ℕ → ℕ → Option Neighbour → Forest → List Spot
spots above place next last bare = []
spots above place next last (item d below beside) =
    let s = spot above next last d below in
    let behind = end_behind above next (lies_on_last above d last) s in
    s ∷ (spots (above_parts place s) (place + 1) s.start None below
    ++ spots above (place + 1 + size below) behind (Some (record { item = d; spot = s })) beside)

abbrev pub nothing_above : Above
nothing_above = record { parent = None; under = None; shared = false }

-- records follow each other from 0 on
abbrev pub all_spots : List Description → List Spot
all_spots ds = spots nothing_above 0 0 None (forest ds)

-- the bytes of all record areas and working storage
abbrev pub storage_of : List Spot → ℕ
storage_of ss = fold (λ most s. max most s.end) 0 ss
