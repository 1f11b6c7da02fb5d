-- Where bytes change, occurrences that have none of them keep their numbers.
use Rattle.std.proofs.Common.{◌≡◌, ◌<◌, ◌≤◌, ℕ, ◌+◌, false, List, [], length, Option, Some, None, ℤ, refl, sym, ap, ◌∙◌, arith}
use Rattle.std.specs.Option.{option_map_or}
use Rattle.cob_data.specs.declared.extent.Extent.{Extent}
use Rattle.cob_data.specs.declared.layout.Item.{Item}
use Rattle.cob_data.specs.declared.layout.Layout.{Layout}
use Rattle.cob_data.specs.Extents.{start_of, share_extents, IsExtent, LiesWithin}
use Rattle.cob_data.specs.Occurrences.{extent_of}
use Rattle.cob_data.proofs.Meeting.{lie_apart}
use Rattle.num_bytes.specs.Reading.{contents_value}
use Rattle.cob_runs.specs.Contents.{area, item_at, form_at, occurrence_bytes, occurrence_filled}
use Rattle.cob_edge_parts.specs.Meaning.{changed_in}
use Rattle.cob_edge_parts.specs.Ranges.{ChangesWithin, GetsItsBytes}
use Rattle.cob_edge_parts.proofs.Frames.{ranges_change_alone, occurrences_change_alone}
use Rattle.cob_graph.specs.declared.homes.Home.{Home}
use Rattle.cob_graph.specs.declared.homes.Home.TheVariants.{Item as of_item, Count as of_count}
use Rattle.cell_steps.specs.Storages.{storage, occurrences_of, value_at}
use Rattle.cell_steps.specs.Cells.{bytes_from, is_in_extent, is_beside}

-- Where each area of an item's occurrence stays that shares no byte with an extent, so do the numbers of homes.
values_stay : (l : Layout) (e : Extent) (before behind : List ℕ) (counts : List (Option ℤ))
    → ((d : Extent) → share_extents e d ≡ false → (n : ℕ) → n < d.times → area behind (start_of d n) d.length ≡ area before (start_of d n) d.length)
    → (h : Home) → is_in_extent l e h ≡ false → (n : ℕ) → n < occurrences_of l h → value_at l (storage behind counts) h n ≡ value_at l (storage before counts) h n
values_stay l e before behind counts stay (of_count k) apart n less = refl
values_stay l e before behind counts stay (of_item place) apart n less = ap (contents_value (form_at l place)) (go (item_at l place) apart less)
  where
    go : (o : Option Item) → option_map_or (λ i. share_extents e (extent_of i)) o false ≡ false → n < option_map_or (λ i. i.times) o 1
        → option_map_or (λ i. area behind (start_of (extent_of i) n) i.length) o [] ≡ option_map_or (λ i. area before (start_of (extent_of i) n) i.length) o []
    go None none below = refl
    go (Some i) none below = stay (extent_of i) none n below

-- what no changed byte is of keeps its value
pub value_stays : (l : Layout) (offset count : ℕ) (before behind : List ℕ) (counts : List (Option ℤ)) → ChangesWithin offset count before behind
    → (h : Home) → is_in_extent l (bytes_from offset count) h ≡ false → (n : ℕ) → n < occurrences_of l h → value_at l (storage behind counts) h n ≡ value_at l (storage before counts) h n
value_stays l offset count before behind counts c =
    values_stay l (bytes_from offset count) before behind counts
    (λ d none n less. c.elsewhere (start_of d n) d.length (lie_apart (bytes_from offset count) d none 0 n (omega arith) less))

-- bytes of a range change
pub range_changes : (change : Option (List ℕ)) (offset count : ℕ) (before : List ℕ) → offset + count ≤ length before → ChangesWithin offset count before (changed_in change offset count before)
range_changes change offset count before within = ranges_change_alone change offset count before within

-- ---- an occurrence gets its bytes

module _ (l : Layout) (place : ℕ) (i : Item) (at : item_at l place ≡ Some i) where
  beside_is : (h : Home) → is_beside l place h ≡ is_in_extent l (extent_of i) h
  beside_is h = ap (λ (o : Option Item). option_map_or (λ j. is_in_extent l (extent_of j) h) o false) at

  item_bytes : (bytes : List ℕ) (n : ℕ) → occurrence_bytes l bytes place n ≡ area bytes (start_of (extent_of i) n) i.length
  item_bytes bytes n = ap (λ (o : Option Item). option_map_or (λ j. area bytes (start_of (extent_of j) n) j.length) o []) at

  module _ (is : IsExtent (extent_of i)) (n : ℕ) (less : n < i.times) (before bytes : List ℕ) (counts : List (Option ℤ)) (whole : length bytes ≡ i.length) (within : LiesWithin (extent_of i) (length before)) where
    abbrev behind : List ℕ
    behind = occurrence_filled l before place n bytes

    gets : GetsItsBytes (extent_of i) n bytes before behind
    gets = occurrences_change_alone l before place i n bytes at is within less whole

    pub filled_length : length (occurrence_filled l before place n bytes) ≡ length before
    filled_length = gets.changes.same_length

    -- other items keep their numbers,
    pub others_stay : (h : Home) → is_beside l place h ≡ false → (m : ℕ) → m < occurrences_of l h
        → value_at l (storage (occurrence_filled l before place n bytes) counts) h m ≡ value_at l (storage before counts) h m
    others_stay h e = values_stay l (extent_of i) before behind counts gets.others h (sym (beside_is h) ∙ e)

    -- and so does the item elsewhere,
    pub siblings_stay : (m : ℕ) → m < i.times → ¬ m ≡ n
        → value_at l (storage (occurrence_filled l before place n bytes) counts) (of_item place) m ≡ value_at l (storage before counts) (of_item place) m
    siblings_stay m there differ = ap (contents_value (form_at l place)) (item_bytes behind m ∙ gets.siblings m there differ ∙ sym (item_bytes before m))

    -- where it holds the bytes
    pub held_value : value_at l (storage (occurrence_filled l before place n bytes) counts) (of_item place) n ≡ contents_value (form_at l place) bytes
    held_value = ap (contents_value (form_at l place)) (item_bytes behind n ∙ gets.held)
