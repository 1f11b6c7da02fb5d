use Rattle.std.proofs.Common.{Some, sym, ap, ◌∙◌}
use Rattle.cob_program.specs.ActView.{plain_program}
use Rattle.interval_domain.specs.Known.{Known}
use Rattle.interval_domain.specs.Rows.{cells_of}
use Rattle.cob_graph.specs.declared.homes.Home.TheVariants.{Item as of_item}
use Rattle.cob_graph.specs.Homes.{homes_of}
use Rattle.cell_steps.specs.Cells.{with_known, forgotten, is_beside}
use Rattle.cell_layer.proofs.Storing.{put_is}
use Rattle.cell_layer.proofs.edge.stores.put_units.Goals as goal

pub returns-clause-cells : goal.returns-clause-cells
returns-clause-cells c =
    let x = c.args in
    let p = plain_program x.program.now in
    let h = of_item x.place in
    let known = c.receiver_known-known in
    put_is p x.place x.keeps (cells_of x.row.now) x.units
    ∙ (ap (λ (k : Known). Some (with_known h k (homes_of p) (forgotten (is_beside p.layout x.place) (homes_of p) (cells_of x.row.now)))) (sym known.ensures.value)
    ∙ (ap (λ cs. Some (with_known h known.result (homes_of p) cs)) (sym c.forget_beside.ensures.cells)
    ∙ ap Some (sym c.set_item.ensures.cells)))
