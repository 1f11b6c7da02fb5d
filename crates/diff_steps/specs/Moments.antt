-- What is known of differences between two parts of an edge.
use Rattle.std.specs.Prelude.{ℕ, ◌∷◌, Bool, false, List, [], ℤ}
use Rattle.std.specs.List.{list_any}
use Rattle.std.specs.Option.{option_map_or}
use Rattle.cob_data.specs.declared.extent.Extent.{Extent}
use Rattle.cob_data.specs.declared.layout.Layout.{Layout}
use Rattle.cob_data.specs.Extents.{share_extents}
use Rattle.cob_data.specs.Occurrences.{extent_of}
use Rattle.cob_runs.specs.Contents.{item_at}

-- The bytes that the edge has written to so far, whether a store fitted or not, and a matrix for each pack.
pub record Seen2 : Type 0 where
  pub wrote : List Extent
  pub packs : List (List ℤ)

abbrev pub with_packs : Seen2 → List (List ℤ) → Seen2
with_packs r packs = record { wrote = r.wrote; packs = packs }

-- an item is written to
abbrev pub item_bytes : Layout → ℕ → List Extent
item_bytes l place = option_map_or (λ i. extent_of i ∷ []) (item_at l place) []

-- whether the edge has written to bytes of an item, in some of its occurrences
abbrev pub is_written : Layout → List Extent → ℕ → Bool
is_written l wrote place = option_map_or (λ i. list_any (λ e. share_extents e (extent_of i)) wrote) (item_at l place) false
