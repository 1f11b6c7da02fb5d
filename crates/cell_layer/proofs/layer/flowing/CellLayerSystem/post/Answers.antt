use Rattle.std.proofs.Common.{◌-◌, sym, ap, ◌∙◌, rules}
use Rattle.cob_program.specs.ActView.{plain_program}
use Rattle.cob_program.specs.Values.{◌>>=◌}
use Rattle.graph_runs.specs.Places.{edge_at}
use Rattle.interval_domain.specs.Elements.{Element}
use Rattle.cell_laws.specs.Layer.{row_for, edge_cells}
use Rattle.cell_layer.proofs.Holding.{fits_too, posts_too, reached_element}
use Rattle.cell_layer.proofs.layer.flowing.CellLayerSystem.post.Goals as goal

pub post_edge-requires-clause-fits : goal.post_edge-requires-clause-fits
post_edge-requires-clause-fits g c =
    let s = c.args.self.now in
    fits_too (plain_program s.program.now) s.graph.now s.works s.held _ (search rules)

pub returns-then-is_reached-clause-row : goal.returns-then-is_reached-clause-row
returns-then-is_reached-clause-row g c =
    let s = c.args.self.now in
    let p = plain_program s.program.now in
    let edge = c.args.edge in
    c.post_edge.ensures
    ∙ (posts_too p s.graph.now s.works s.held (edge - 1) _
    ∙ ap (λ (o : Element). row_for p (o >>= edge_cells p s.graph.now (edge_at s.graph.now edge)))
    (sym (reached_element c.args.from.now _ c.copy_from_slice.ensures.after c.is_reached.result c.if-is_reached.true c.is_reached.ensures)))
