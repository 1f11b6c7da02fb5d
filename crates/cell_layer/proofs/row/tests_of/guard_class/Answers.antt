use Rattle.std.proofs.Common.{Some, sym, ap, ◌∙◌}
use Rattle.cob_program.specs.ActView.{plain_program}
use Rattle.cob_program.specs.Logic.{numeric}
use Rattle.interval_domain.specs.Rows.{cells_of}
use Rattle.cell_steps.specs.Steps.{guarded_cells}
use Rattle.cell_layer.proofs.Cuts.{not_numeric_is}
use Rattle.cell_layer.proofs.row.tests_of.guard_class.Goals as goal

pub returns-then-wanted-clause-on : goal.returns-then-wanted-clause-on
returns-then-wanted-clause-on c = λ told.
    let p = plain_program c.args.program.now in
    ap (λ w. guarded_cells p (numeric c.args.place) w (cells_of c.args.row.now)) c.if-wanted.true ∙ ap Some (sym c.read_one.ensures.cells)

pub returns-clause-on : goal.returns-clause-on
returns-clause-on c = λ told.
    let p = plain_program c.args.program.now in
    ap (λ w. guarded_cells p (numeric c.args.place) w (cells_of c.args.row.now)) c.if-wanted.false
    ∙ (not_numeric_is p c.args.place (cells_of c.args.row.now) c.item_is_numeric.result c.item_is_numeric.ensures).0 told

pub returns-clause-off : goal.returns-clause-off
returns-clause-off c = λ told.
    let p = plain_program c.args.program.now in
    ap (λ w. guarded_cells p (numeric c.args.place) w (cells_of c.args.row.now)) c.if-wanted.false
    ∙ (not_numeric_is p c.args.place (cells_of c.args.row.now) c.item_is_numeric.result c.item_is_numeric.ensures).1 told
