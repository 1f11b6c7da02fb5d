-- Which item or counter each cell of a program is of.
use Rattle.std.specs.Prelude.{◌≡◌, ℕ, [], ◌∷◌, map, Some}
use Rattle.std.specs.List.{AllZip}
use Rattle.cob_data.specs.declared.layout.Sender.{Sender}
use Rattle.cob_program.specs.Act.{Body, times, perform, Program}
use Rattle.cob_runs.specs.declared.action.Cell.{Cell}
use Rattle.cob_runs.specs.Contents.{form_at}
use Rattle.cob_runs.specs.Effects.{act_at}
use Rattle.cob_graph.specs.declared.homes.Home.{Home}
use Rattle.cob_graph.specs.declared.homes.Home.TheVariants.{Item as of_item, Count as of_count}
use Rattle.cob_graph.specs.Homes.{home_of, homes_of, cell_of_home}
use Rattle.cob_graph.specs.Graphs.{cells_of}
use Rattle.cob_graph.specs.WellFormed.{IsWellFormed}
use Rattle.cell_steps.specs.OwnRanges.{own_range, owns}

-- the statement with the number is a PERFORM with TIMES
pub record IsTimes (p : Program) (statement : ℕ) : Type 0 where
  pub body : Body
  pub count : Sender
  pub act : act_at p statement ≡ Some (perform body (times count))

-- the item at the place is a number or a short text, and the counter is one of TIMES
abbrev pub IsHomeOf : Program → Home → Type 0
IsHomeOf p (of_item place) = home_of place (form_at p.layout place) ≡ of_item place ∷ []
IsHomeOf p (of_count statement) = IsTimes p statement

-- the one cell of the item at the place, or the counter of the statement
abbrev pub IsCellOf : Program → Home → Cell → Type 0
IsCellOf p h c = (c ≡ cell_of_home p.layout h) × IsHomeOf p h

-- there are as many cells as homes, and each is of the home at its place
abbrev pub CellsAreOfHomes : Type 0
CellsAreOfHomes = (p : Program) → IsWellFormed p → AllZip (IsCellOf p) (homes_of p) (cells_of p)

-- so the own ranges of homes are those of the cells
abbrev pub HomesHaveOwnRanges : Type 0
HomesHaveOwnRanges = (p : Program) → owns p ≡ map own_range (cells_of p)
