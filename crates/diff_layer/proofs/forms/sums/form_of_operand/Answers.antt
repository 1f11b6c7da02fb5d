use Rattle.std.proofs.Common.{◌∙◌}
use Rattle.cob_program.specs.SumView.{plain_atom}
use Rattle.cell_layer.proofs.ShortBounds.{bounded}
use Rattle.diff_layer.specs.Views.{item_cell, program_of, known_in}
use Rattle.diff_layer.proofs.FormsAgree.{atom_form_is}
use Rattle.diff_layer.proofs.forms.sums.form_of_operand.Goals as goal

pub atom_form-requires-clause-bounded : goal.atom_form-requires-clause-bounded
atom_form-requires-clause-bounded c = bounded (program_of c.args.items.now) (known_in c.args.items.now) c.requires.fits

pub returns-clause-value : goal.returns-clause-value
returns-clause-value c =
    c.atom_form.ensures.value
    ∙ atom_form_is (program_of c.args.items.now) (known_in c.args.items.now) c.args.pack.now.decimals (item_cell c.args.pack.now) (plain_atom c.args.atom.now)
    c.requires.small
