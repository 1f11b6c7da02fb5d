use Rattle.std.proofs.Common.{sym, ap, ◌∙◌}
use Rattle.cob_program.specs.ActView.{plain_program}
use Rattle.cob_program.specs.LogicView.{plain_test}
use Rattle.interval_domain.specs.Rows.{cells_of}
use Rattle.cell_steps.specs.Steps.{guarded_cells}
use Rattle.cell_layer.proofs.Cuts.{class_is}
use Rattle.cell_layer.proofs.row.tests_of.guard_row.Goals as goal

pub returns-in-Some-clause-on : goal.returns-in-Some-clause-on
returns-in-Some-clause-on c = λ told.
    let p = plain_program c.args.program.now in
    let is = class_is (plain_test c.args.test.now) c.in-Some.place (sym c.class_item.ensures ∙ c.in-Some.is) in
    ap (λ t. guarded_cells p t c.args.wanted (cells_of c.args.row.now)) is ∙ c.guard_class.ensures.on told

pub returns-in-Some-clause-off : goal.returns-in-Some-clause-off
returns-in-Some-clause-off c = λ told.
    let p = plain_program c.args.program.now in
    let is = class_is (plain_test c.args.test.now) c.in-Some.place (sym c.class_item.ensures ∙ c.in-Some.is) in
    ap (λ t. guarded_cells p t c.args.wanted (cells_of c.args.row.now)) is ∙ c.guard_class.ensures.off told
