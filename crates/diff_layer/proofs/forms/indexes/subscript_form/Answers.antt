use Rattle.std.proofs.Common.{length, None, false}
use Rattle.cob_graph.specs.declared.homes.Home.TheVariants.{Item as of_item}
use Rattle.cell_steps.specs.Stores.{range_at}
use Rattle.diff_layer.specs.Views.{item_cell, program_of, known_in}
use Rattle.diff_layer.proofs.Over.{own_over, few, is_of_pack}
use Rattle.diff_layer.proofs.forms.indexes.subscript_form.Goals as goal

pub returns-then-item_decimals-eq0-clause-of_pack : goal.returns-then-item_decimals-eq0-clause-of_pack
returns-then-item_decimals-eq0-clause-of_pack c =
    let pack = c.args.pack.now in
    let items = c.args.items.now in
    let size = length pack.cells.now in
    is_of_pack size _ _ c.own_form.ensures.good c.own_form.ensures.value
    (own_over size pack.decimals (item_cell pack) (λ place. few pack.cells.now (of_item place)) None false (range_at (program_of items) (known_in items)) c.args.item)
