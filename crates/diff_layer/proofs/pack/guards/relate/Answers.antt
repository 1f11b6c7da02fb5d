use Rattle.std.proofs.Common.{length, ◌∙◌}
use Rattle.cob_program.specs.SumView.{plain_sum}
use Rattle.cell_steps.specs.Stores.{range_at}
use Rattle.diff_layer.specs.Views.{item_cell, program_of, known_in}
use Rattle.diff_layer.proofs.Related.{related_is}
use Rattle.diff_layer.proofs.pack.guards.relate.Goals as goal

pub returns-clause-value : goal.returns-clause-value
returns-clause-value c =
    let x = c.args in
    c.relate.ensures.value
    ∙ related_is (item_cell x.pack.now) (range_at (program_of x.items.now) (known_in x.items.now)) (length x.pack.now.cells.now) (plain_sum x.left.now) x.outcome.rel
    (plain_sum x.right.now) x.outcome.holds x.m.now _ _ c.are_fine-fine.result c.difference_form-form.result c.requires.unit c.are_fine-fine.ensures
    c.difference_form-form.ensures.value
