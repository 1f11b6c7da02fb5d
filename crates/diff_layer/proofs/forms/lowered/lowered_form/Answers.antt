use Rattle.std.proofs.Common.{length}
use Rattle.cob_graph.specs.declared.homes.Home.TheVariants.{Count as of_count}
use Rattle.diff_layer.proofs.Over.{few, lowered_of_pack}
use Rattle.diff_layer.proofs.forms.lowered.lowered_form.Goals as goal

pub returns-clause-of_pack : goal.returns-clause-of_pack
returns-clause-of_pack c =
    let pack = c.args.pack.now in
    lowered_of_pack (length pack.cells.now) pack.decimals _ _ _ _ _ _ (few pack.cells.now (of_count c.args.statement)) c.added.ensures.good
    c.counter_form.ensures.value c.one_less.ensures.value c.added.ensures.value
