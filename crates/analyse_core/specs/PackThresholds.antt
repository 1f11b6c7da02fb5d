-- The thresholds of packs: those of each pack's cells in the pack's unit, and their negatives.
use Rattle.std.specs.Prelude.{◌≤◌, ◌<◌, ◌-◌, ◌^◌, ℕ, max, List, [], ◌∷◌, ◌++◌, length, slice_get, slice_index_or, ℤ, pos, neg_ℤ, ◌*ℤ◌, unsigned_abs}
use Rattle.std.specs.List.{AllByRecursion}
use Rattle.std.specs.Option.{option_map_or}
use Rattle.cob_runs.specs.declared.action.Cell.{Cell}
use Rattle.analyse_core.specs.Rising.{sorted}

-- ---- a pack's unit

-- the decimals of a cell, by its number from 1 on
abbrev pub scale_at : List Cell → ℕ → ℕ
scale_at cells number = option_map_or (λ c. c.scale) (slice_get cells (number - 1)) 0

-- the decimals of the finest cell
abbrev pub finest : List Cell → List ℕ → ℕ
finest cells [] = 0
finest cells (n ∷ ns) = max (scale_at cells n) (finest cells ns)

-- how many units of so many decimals one of the cell is
abbrev pub cell_units : List Cell → ℕ → ℕ → ℤ
cell_units cells decimals number = pos (10 ^ (decimals - scale_at cells number))

-- ---- thresholds

-- the thresholds of a cell, in its own unit
abbrev pub own_thresholds : List (List ℤ) → ℕ → List ℤ
own_thresholds lists number = slice_index_or lists (number - 1) []

abbrev pub with_negative : ℤ → List ℤ
with_negative z = z ∷ neg_ℤ z ∷ []

-- the thresholds of a list, of which one is so many of the pack's units
abbrev pub list_thresholds : ℤ → List ℤ → List ℤ
list_thresholds units [] = []
list_thresholds units (t ∷ ts) = with_negative (t *ℤ units) ++ list_thresholds units ts

-- the thresholds of a cell by its number, in units of so many decimals
abbrev pub cell_thresholds : List Cell → List (List ℤ) → ℕ → ℕ → List ℤ
cell_thresholds cells lists decimals number = list_thresholds (cell_units cells decimals number) (own_thresholds lists number)

abbrev pub cells_thresholds : List Cell → List (List ℤ) → ℕ → List ℕ → List ℤ
cells_thresholds cells lists decimals [] = []
cells_thresholds cells lists decimals (n ∷ ns) = cell_thresholds cells lists decimals n ++ cells_thresholds cells lists decimals ns

-- the thresholds of a pack, by the program's cells, a list of thresholds for each, and the numbers of the pack's cells
abbrev pub thresholds_of_pack : List Cell → List (List ℤ) → List ℕ → List ℤ
thresholds_of_pack cells lists numbers = sorted (cells_thresholds cells lists (finest cells numbers) numbers)

-- ---- sizes

-- a cell's list has at most 128 numbers, of at most 18 digits
pub record IsCellList (ts : List ℤ) : Type 0 where
  pub few : length ts ≤ 128
  pub small : AllByRecursion (λ z. unsigned_abs z < 10 ^ 18) ts

abbrev pub HasFewDecimals : Cell → Type 0
HasFewDecimals c = c.scale ≤ 18

abbrev pub HasFewCells : List ℕ → Type 0
HasFewCells numbers = length numbers ≤ 8

-- a number that is worked out from a threshold
abbrev pub IsWord : ℤ → Type 0
IsWord z = unsigned_abs z ≤ 10 ^ 37
