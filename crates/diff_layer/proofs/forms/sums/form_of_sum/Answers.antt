use Rattle.std.proofs.Common.{◌∙◌}
use Rattle.cob_program.specs.SumView.{plain_sum}
use Rattle.cell_layer.proofs.ShortBounds.{bounded}
use Rattle.diff_layer.specs.Views.{item_cell, program_of, known_in}
use Rattle.diff_layer.proofs.FormsAgree.{sum_form_is}
use Rattle.diff_layer.proofs.forms.sums.form_of_sum.Goals as goal

pub sum_form-requires-clause-bounded : goal.sum_form-requires-clause-bounded
sum_form-requires-clause-bounded c = bounded (program_of c.args.items.now) (known_in c.args.items.now) c.requires.fits

pub returns-clause-value : goal.returns-clause-value
returns-clause-value c =
    c.sum_form.ensures.value
    ∙ sum_form_is (program_of c.args.items.now) (known_in c.args.items.now) c.args.pack.now.decimals (item_cell c.args.pack.now) (plain_sum c.args.sum.now)
    c.requires.small
