-- Packs of cells, and the storages of which a row of matrices is true.
use Rattle.std.specs.Prelude.{ℕ, zero, suc, ◌+◌, ◌-◌, ◌^◌, max, if◌then◌else◌, List, [], ◌∷◌, length, slice_get, ℤ, pos, ◌*ℤ◌, Option, Some, None}
use Rattle.std.specs.Option.{option_map}
use Rattle.cob_data.specs.declared.layout.Layout.{Layout}
use Rattle.cob_program.specs.Values.{◌>>=◌}
use Rattle.cob_runs.specs.Contents.{form_at, scale_of}
use Rattle.dom_laws.specs.Meaning.{Storage}
use Rattle.diff_bounds.specs.Matrix.{word}
use Rattle.diff_bounds.specs.Storages.{StandsIn}
use Rattle.cob_graph.specs.declared.homes.Home.{Home}
use Rattle.cob_graph.specs.declared.homes.Home.TheVariants.{Item as of_item, Count as of_count}
use Rattle.cob_graph.specs.Homes.{is_home}
use Rattle.cell_steps.specs.Storages.{value_at}

-- A pack: what each of its cells is of. Its matrix has place 0 for the number 0, and a place for each cell from 1 on.
abbrev pub Pack : Type 0
Pack = List Home

abbrev pub size_of : Pack → ℕ
size_of pack = length pack

-- the place from 0 on of the first cell that is of a home
abbrev pub cell_of : Pack → Home → Option ℕ
cell_of [] home = None
cell_of (h ∷ hs) home = if is_home h home then Some 0 else option_map (λ k. suc k) (cell_of hs home)

-- ---- units

-- the decimals of a cell's own units
abbrev pub decimals_of : Layout → Home → ℕ
decimals_of l (of_item place) = scale_of (form_at l place)
decimals_of l (of_count statement) = 0

-- the pack's unit has the decimals of its finest cell
abbrev pub pack_decimals : Layout → Pack → ℕ
pack_decimals l [] = 0
pack_decimals l (h ∷ hs) = max (decimals_of l h) (pack_decimals l hs)

-- so many of the pack's units as one of a cell's
abbrev pub unit_of : Layout → Pack → Home → ℕ
unit_of l pack h = 10 ^ (pack_decimals l pack - decimals_of l h)

-- ---- what a row is true of

-- a cell's value in the pack's unit, if it has one; cells from place 1 on. None is a table's, so that each has one occurrence.
abbrev pub cells_in : Layout → Pack → Storage → ℕ → Option ℤ
cells_in l pack s zero = None
cells_in l pack s (suc k) = slice_get pack k >>= λ h. option_map (λ v. v *ℤ pos (unit_of l pack h)) (value_at l s h 0)

abbrev pub PackStands : Layout → Pack → List ℤ → Storage → Type 0
PackStands l pack m s = StandsIn (size_of pack + 1) (word (size_of pack + 1) m) (cells_in l pack s)

-- a matrix for each pack, each true of the storage
abbrev pub PacksStand : Layout → List Pack → List (List ℤ) → Storage → Type 0
PacksStand l [] [] s = Unit {0}
PacksStand l (pack ∷ packs) (m ∷ ms) s = PackStands l pack m s × PacksStand l packs ms s
PacksStand l _ _ s = ⊥
