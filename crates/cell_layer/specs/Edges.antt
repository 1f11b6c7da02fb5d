-- What edges make of rows, and what they clear, from the statements that they leave.
use Rattle.std.specs.Prelude.{◌≡◌, Bool, true, List, ℤ}
use Rattle.std.specs.List.{AllByRecursion}
use Rattle.cob_tree.specs.declared.fault.Kind.{Kind}
use Rattle.cob_program.specs.Act.{Stmt, Program}
use Rattle.cob_runs.specs.declared.action.Action.{Action}
use Rattle.cob_runs.specs.declared.action.Cell.{Cell}
use Rattle.edge_parts.specs.PartView.{edge_parts}
use Rattle.interval_domain.specs.Known.{Known}
use Rattle.interval_domain.specs.Elements.{Element, CellsFit}
use Rattle.interval_domain.specs.Rows.{cells_of}
use Rattle.cell_steps.specs.OwnRanges.{owns}
use Rattle.cell_steps.specs.Seen.{beginning}
use Rattle.cell_steps.specs.Clearing.{clears_parts}
use Rattle.cell_steps.specs.Edges.{steps, finished}
use Rattle.cell_layer.specs.SmallCells.{has_small_cells}
use Rattle.cell_layer.specs.ProgramRows.{IsRowOf}
use Rattle.cell_laws.specs.Sizes.{IsSmallPart}
use Rattle.cell_layer.specs.NumberedStatements.{act_in}

module _ (p : Program) (y : Stmt) (x : Action) where
  abbrev pub statement_post : List Known → Element
  statement_post cells = finished p (act_in y) x (steps p (act_in y) x (edge_parts p y x) (beginning cells))

  abbrev pub statement_clears : List Known → Kind → Bool
  statement_clears cells fault = clears_parts p (act_in y) x (edge_parts p y x) (beginning cells) fault

-- the row can be led along the edge of the statement, part by part
pub record CanWalk (p : Program) (cells : List Cell) (y : Stmt) (x : Action) (row : List ℤ) : Type 0 where
  pub row_of : IsRowOf p cells row
  pub fits : CellsFit (owns p) (cells_of row)
  pub small_cells : has_small_cells p ≡ true
  pub small : AllByRecursion (IsSmallPart p (act_in y) x) (edge_parts p y x)
