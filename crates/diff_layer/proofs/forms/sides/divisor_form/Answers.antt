use Rattle.std.proofs.Common.{length, ap, ◌∙◌}
use Rattle.sum_forms.specs.SumForms.{atom_form}
use Rattle.sum_forms.proofs.Within.{atom_within}
use Rattle.edge_parts.specs.PartView.{plain_divisor}
use Rattle.cob_graph.specs.declared.homes.Home.TheVariants.{Item as of_item}
use Rattle.cell_steps.specs.Stores.{range_at}
use Rattle.diff_layer.specs.Views.{item_cell, program_of, known_in}
use Rattle.diff_layer.proofs.Over.{few, is_of_pack}
use Rattle.diff_layer.proofs.forms.sides.divisor_form.Goals as goal

pub returns-clause-value : goal.returns-clause-value
returns-clause-value c =
    c.form_of_divisor.ensures.value
    ∙ ap (λ f. atom_form f (item_cell c.args.pack.now) (range_at (program_of c.args.items.now) (known_in c.args.items.now)) (plain_divisor c.args.divisor)) c.requires.unit

pub returns-clause-of_pack : goal.returns-clause-of_pack
returns-clause-of_pack c =
    let pack = c.args.pack.now in
    let size = length pack.cells.now in
    is_of_pack size _ _ c.form_of_divisor.ensures.good c.form_of_divisor.ensures.value
    (atom_within pack.decimals (item_cell pack) (range_at (program_of c.args.items.now) (known_in c.args.items.now)) size
    (λ place. few pack.cells.now (of_item place)) (plain_divisor c.args.divisor))
