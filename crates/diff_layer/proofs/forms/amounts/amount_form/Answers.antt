use Rattle.std.proofs.Common.{length}
use Rattle.transfer_ranges.specs.AmountView.{plain_amount}
use Rattle.cob_graph.specs.declared.homes.Home.TheVariants.{Item as of_item}
use Rattle.cell_steps.specs.Stores.{range_at}
use Rattle.diff_layer.specs.Views.{plain_pack, item_cell, program_of, known_in}
use Rattle.diff_layer.proofs.AmountsAgree.{amount_is}
use Rattle.diff_layer.proofs.Over.{amount_over, few, is_of_pack}
use Rattle.diff_layer.proofs.forms.amounts.amount_form.Goals as goal

pub returns-clause-value : goal.returns-clause-value
returns-clause-value c = λ wrote written.
    amount_is (program_of c.args.items.now) (plain_pack c.args.pack.now) (known_in c.args.items.now) c.args.common wrote c.args.place (plain_amount c.args.amount)
    c.args.written _ _ c.requires.unit written c.form_of_amount.ensures.value

pub returns-clause-of_pack : goal.returns-clause-of_pack
returns-clause-of_pack c =
    let pack = c.args.pack.now in
    let size = length pack.cells.now in
    is_of_pack size _ _ c.form_of_amount.ensures.good c.form_of_amount.ensures.value
    (amount_over size pack.decimals (item_cell pack) (λ place. few pack.cells.now (of_item place)) c.args.common c.args.written
    (range_at (program_of c.args.items.now) (known_in c.args.items.now)) c.args.place (plain_amount c.args.amount))
