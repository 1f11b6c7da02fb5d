use Rattle.std.proofs.Common.{length}
use Rattle.cob_program.specs.SumView.{plain_sum}
use Rattle.cob_graph.specs.declared.homes.Home.TheVariants.{Item as of_item}
use Rattle.cell_steps.specs.Stores.{range_at}
use Rattle.diff_layer.specs.Views.{item_cell, program_of, known_in}
use Rattle.diff_layer.proofs.Differences.{difference_is}
use Rattle.diff_layer.proofs.Over.{few, difference_of_pack}
use Rattle.diff_layer.proofs.forms.sides.difference_form.Goals as goal

pub returns-clause-value : goal.returns-clause-value
returns-clause-value c =
    difference_is (item_cell c.args.pack.now) (range_at (program_of c.args.items.now) (known_in c.args.items.now)) (plain_sum c.args.left.now) (plain_sum c.args.right.now)
    _ _ _ _ _ _ c.requires.unit c.form_of_sum-more.ensures.value c.form_of_sum-less.ensures.value c.turned.ensures.value c.added.ensures.value

pub returns-clause-of_pack : goal.returns-clause-of_pack
returns-clause-of_pack c =
    let pack = c.args.pack.now in
    difference_of_pack (length pack.cells.now) pack.decimals (item_cell pack) (range_at (program_of c.args.items.now) (known_in c.args.items.now))
    (plain_sum c.args.left.now) (plain_sum c.args.right.now) _ _ _ _ (λ place. few pack.cells.now (of_item place)) c.added.ensures.good
    c.form_of_sum-more.ensures.value c.form_of_sum-less.ensures.value c.turned.ensures.value c.added.ensures.value
