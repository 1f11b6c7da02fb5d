use Rattle.std.specs.List.{AllByRecursion}
use Rattle.cell_laws.specs.Sizes.{IsSmallPart}
use Rattle.cell_layer.specs.ProgramRows.{IsRowOf}
use Rattle.cell_layer.specs.Walks.{CanStep}
use Rattle.cell_layer.specs.Kept.{seen}
use Rattle.cell_layer.specs.Works.{program_of, act_of}
use Rattle.cell_layer.proofs.Walked.{left_of}
use Rattle.layer_driver.proofs.subscripts.walk_parts.Given as goal

-- the row can be led over the parts that are left
abbrev pub invariant-loop-part : goal.invariant-loop-part
invariant-loop-part l =
    let w = l.work in
    let p = program_of w in
    record {
      row_of : IsRowOf p l.cells l.row;
      can : CanStep p (act_of w) w.action (seen l.row l.kept);
      small : AllByRecursion (IsSmallPart p (act_of w) w.action) (left_of w.parts.items l.part-index);
    }
