use Rattle.std.proofs.Common.{Some, sym, ap, ◌∙◌}
use Rattle.std.specs.Option.{option_map}
use Rattle.cob_program.specs.ActView.{plain_program}
use Rattle.interval_domain.specs.Rows.{cells_of}
use Rattle.cell_steps.specs.Steps.{all_cut}
use Rattle.cell_layer.proofs.row.tests_of.guard_numbers.Goals as goal

pub returns-in-Some-clause-on : goal.returns-in-Some-clause-on
returns-in-Some-clause-on c = λ told.
    let p = plain_program c.args.program.now in
    ap (option_map (all_cut p (cells_of c.args.row.now))) (sym c.cuts_of.ensures.value ∙ c.in-Some.is) ∙ ap Some (sym c.cut_all.ensures.cells)

pub returns-in-None-clause-off : goal.returns-in-None-clause-off
returns-in-None-clause-off c = λ told.
    let p = plain_program c.args.program.now in
    ap (option_map (all_cut p (cells_of c.args.row.now))) (sym c.cuts_of.ensures.value ∙ c.in-None.is)
