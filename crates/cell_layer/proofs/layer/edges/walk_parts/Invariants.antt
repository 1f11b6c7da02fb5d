use Rattle.std.proofs.Common.{◌≡◌}
use Rattle.std.specs.List.{AllByRecursion}
use Rattle.cell_laws.specs.Sizes.{IsSmallPart}
use Rattle.cell_layer.specs.ProgramRows.{IsRowOf}
use Rattle.cell_layer.specs.Walks.{steps_small, CanStep}
use Rattle.cell_layer.specs.Kept.{seen}
use Rattle.cell_layer.specs.Works.{program_of, act_of, parts_in}
use Rattle.cell_layer.proofs.Walked.{left_of}
use Rattle.cell_layer.proofs.layer.edges.walk_parts.Given as goal

-- the parts that are left make of what is seen what all make of the beginning
abbrev pub invariant-loop-part : goal.invariant-loop-part
invariant-loop-part l =
    let w = l.work in
    let p = program_of w in
    record {
      row_of : IsRowOf p l.cells l.row;
      can : CanStep p (act_of w) w.action (seen l.row l.kept);
      small : AllByRecursion (IsSmallPart p (act_of w) w.action) (left_of w.parts.items l.part-index);
      told : steps_small p (act_of w) w.action (left_of w.parts.items l.part-index) (seen l.row l.kept)
          ≡ steps_small p (act_of w) w.action (parts_in w) (seen l.initial.row l.initial.kept);
    }
