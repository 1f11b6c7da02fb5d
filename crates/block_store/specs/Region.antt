-- What a region's fields mean.
use Rattle.std.specs.Prelude.{◌≡◌, ℕ, ◌*◌, ◌^◌, ◌≤◌, List, ◌++◌, ℤ, length, map}
use Rattle.std.specs.List.{range_with_len}
use Rattle.block_store.specs.Words.{run_at}
use Rattle.block_store.specs.Grid.{Grid}
use Rattle.block_store.specs.declared.region.Region.TheInside.{Inside}

-- the row of so many words at a place
abbrev pub row_of : List ℤ → ℕ → ℕ → List ℤ
row_of words width place = run_at words (place * width) width

abbrev pub rows_of : List ℤ → ℕ → ℕ → List (List ℤ)
rows_of words width count = map (row_of words width) (range_with_len 0 count)

abbrev pub grid_in : Inside → Grid
grid_in r = record { width = r.width; rows = rows_of (r.halves.low ++ r.halves.high) r.width r.count }

pub record IsRegion (r : Inside) : Type 0 where
  pub size : length (r.halves.low ++ r.halves.high) ≡ r.width * r.count
  pub limit : r.width * r.count ≤ 2 ^ 32
  -- the border stands between two rows
  pub border : length r.halves.low ≡ r.border * r.width
