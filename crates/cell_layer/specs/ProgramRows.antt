-- Cells of a row by their numbers, and how a row goes with its program.
use Rattle.std.specs.Prelude.{◌≡◌, ℕ, ◌<◌, List, length, slice_set, Option, Some, None, ℤ, IfSome}
use Rattle.cob_program.specs.Act.{Program}
use Rattle.cob_runs.specs.declared.action.Cell.{Cell}
use Rattle.cob_graph.specs.Graphs.{cells_of}
use Rattle.interval_domain.specs.Known.{Known}
use Rattle.interval_domain.specs.Rows as rows
use Rattle.interval_domain.specs.Rows.{IsReached}
use Rattle.cob_graph.specs.Homes.{homes_of}

-- what is known of the cell with a number, if there is one
abbrev pub known_in : List Known → Option ℕ → Known
known_in cells None = None
known_in cells (Some k) = rows.known_at cells k

-- the cell with a number, if there is one, is known so
abbrev pub set_in : List Known → Option ℕ → Known → List Known
set_in cells None known = cells
set_in cells (Some k) known = slice_set cells k known

-- the number is that of a cell
abbrev pub IsCellNumber : List Known → Option ℕ → Type 0
IsCellNumber cells k = IfSome k (λ n. n < length cells)

-- The cells are the program's, and the row is reached and has a cell for each.
pub record IsRowOf (p : Program) (cells : List Cell) (row : List ℤ) : Type 0 where
  pub cells_are : cells ≡ cells_of p
  pub reached : IsReached row
  pub count : length (rows.cells_of row) ≡ length (homes_of p)
