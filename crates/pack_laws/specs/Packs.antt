-- Packs by the numbers of their cells, which count from 1 in the order of a program's cells.
use Rattle.std.specs.Prelude.{ℕ, ◌-◌, ◌<◌, ◌≤◌, List, map, length, slice_index_or}
use Rattle.std.specs.List.{AllByRecursion}
use Rattle.cob_program.specs.Act.{Program}
use Rattle.cob_graph.specs.declared.homes.Home.{Home}
use Rattle.cob_graph.specs.declared.homes.Home.TheVariants.{Item as of_item}
use Rattle.cob_graph.specs.Homes.{homes_of}
use Rattle.diff_bounds.specs.declared.Pack as declared
use Rattle.diff_steps.specs.Packs.{Pack}

-- what the cell with a number is of
abbrev pub home_at : List Home → ℕ → Home
home_at homes number = slice_index_or homes (number - 1) (of_item 0)

abbrev pub pack_in : List Home → List ℕ → Pack
pack_in homes numbers = map (home_at homes) numbers

abbrev pub packs_in : List Home → List declared.Pack → List Pack
packs_in homes packs = map (λ pack. pack_in homes pack.cells.items) packs

abbrev pub packs_of : Program → List declared.Pack → List Pack
packs_of p packs = packs_in (homes_of p) packs

-- ---- which numbers a pack may have

-- numbers of 8 of so many cells at most, in rising order
pub record AreRisingNumbers (count : ℕ) (numbers : List ℕ) : Type 0 where
  pub few : length numbers ≤ 8
  pub first : (k : ℕ) → k < length numbers → 1 ≤ slice_index_or numbers k 0
  pub last : (k : ℕ) → k < length numbers → slice_index_or numbers k 0 ≤ count
  pub rising : (j k : ℕ) → j < k → k < length numbers → slice_index_or numbers j 0 < slice_index_or numbers k 0

abbrev pub ArePacksOfCells : ℕ → List declared.Pack → Type 0
ArePacksOfCells count packs = AllByRecursion (λ pack. AreRisingNumbers count pack.cells.items) packs
