use Rattle.std.proofs.Common.{length}
use Rattle.cob_graph.specs.declared.homes.Home.TheVariants.{Item as of_item}
use Rattle.diff_layer.specs.Views.{item_cell}
use Rattle.diff_layer.proofs.Over.{sender_over, few, is_of_pack}
use Rattle.diff_layer.proofs.forms.senders.set_form.Goals as goal

pub returns-then-is_whole_sender-clause-of_pack : goal.returns-then-is_whole_sender-clause-of_pack
returns-then-is_whole_sender-clause-of_pack c =
    let pack = c.args.pack.now in
    let size = length pack.cells.now in
    is_of_pack size _ _ c.form_of_sender.ensures.good c.form_of_sender.ensures.value
    (sender_over size pack.decimals (item_cell pack) (λ place. few pack.cells.now (of_item place)) c.args.common c.args.written c.args.sender.now)
