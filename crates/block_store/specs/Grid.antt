-- What callers see of a region: rows of one width.
use Rattle.std.specs.Prelude.{◌≡◌, ℕ, ◌<◌, List, [], ℤ, length, get_or, slice_set}

pub record Grid : Type 0 where
  pub width : ℕ
  pub rows : List (List ℤ)

abbrev pub row_at : Grid → ℕ → List ℤ
row_at g place = get_or g.rows place []

-- the row stands there instead
abbrev pub with_row : Grid → ℕ → List ℤ → Grid
with_row g place row = record { width = g.width; rows = slice_set g.rows place row }

-- so many rows, all of the width
pub record HasRows (width count : ℕ) (g : Grid) : Type 0 where
  pub width_is : g.width ≡ width
  pub count_is : length g.rows ≡ count
  pub widths : (place : ℕ) → place < count → length (row_at g place) ≡ width
