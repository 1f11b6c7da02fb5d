use Rattle.std.proofs.Common.{◌<◌, List, length, sym, subst}
use Rattle.std.specs.Prelude.{IfSome}
use Rattle.std.specs.List.{All}
use Rattle.cob_data.specs.declared.layout.Item.{Item}
use Rattle.cob_program.specs.ActView.{plain_program}
use Rattle.cob_runs.specs.declared.action.Cell.{Cell}
use Rattle.cell_layer.proofs.Forgotten.{cells_within}
use Rattle.cell_layer.proofs.row.beside.marks_of_cells.Goals as goal

pub all_marks-requires : goal.all_marks-requires
all_marks-requires c = record {
  within = subst (λ (is_ : List Item). All (λ (x : Cell). IfSome x.item (λ place. place < length is_)) c.args.cells.now) (sym c.get.ensures)
      (cells_within (plain_program c.args.program.now) c.args.cells.now c.requires);
}
