use Rattle.std.proofs.Common.{length, ◌∙◌, ap}
use Rattle.cob_graph.specs.declared.homes.Home.TheVariants.{Count as of_count}
use Rattle.diff_steps.specs.Packs.{cell_of}
use Rattle.diff_layer.specs.Views.{plain_pack}
use Rattle.diff_layer.specs.Changes.{cell_assigned}
use Rattle.diff_layer.proofs.pack.counters.count_down.Goals as goal

pub returns-clause-value : goal.returns-clause-value
returns-clause-value c common wrote =
    c.set_cell.ensures.value
    ∙ ap (λ form. cell_assigned (length c.args.pack.now.cells.now) form (cell_of (plain_pack c.args.pack.now) (of_count c.args.statement)) c.args.m.now)
    (c.lowered_form-form.ensures.value common wrote)
