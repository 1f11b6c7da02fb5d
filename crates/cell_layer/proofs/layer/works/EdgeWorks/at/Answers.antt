use Rattle.std.proofs.Common.{List, Option, Some, None, sym, ap, subst, ◌∙◌}
use Rattle.std.specs.Prelude.{slice_get, slice_index_or}
use Rattle.cob_program.specs.ActView.{plain_program}
use Rattle.cob_program.specs.Values.{◌>>=◌}
use Rattle.edge_parts.specs.declared.work.EdgeWork.{EdgeWork}
use Rattle.graph_runs.specs.Places.{no_edge}
use Rattle.cell_layer.specs.Works.{IsWorkOf}
use Rattle.cell_layer.proofs.WorkPlaces.{got, work_at}
use Rattle.cell_layer.proofs.layer.works.EdgeWorks.at.Goals as goal

pub returns-in-Some : goal.returns-in-Some
returns-in-Some c =
    let s = c.args.self.now in
    let p = plain_program s.program.now in
    let x = slice_index_or s.graph.now.edges c.args.at no_edge in
    let is = sym c.place.ensures ∙ c.in-Some.is in
    subst (λ (o : Option EdgeWork). ∥ IsWorkOf p s.graph.now x o ∥₁)
    (ap (λ o. o >>= slice_get s.works.items) is
    ∙ (ap (λ (ws : List EdgeWork). slice_get ws c.in-Some.place) (sym c.as_slice.ensures.value)
    ∙ got c.as_slice.result.now c.in-Some.place c.get.result c.get.ensures.lookup))
    (work_at p s.graph.now s.works.items s.places.items c.args.at s.placed c.requires)

pub returns-in-None : goal.returns-in-None
returns-in-None c =
    let s = c.args.self.now in
    let p = plain_program s.program.now in
    let x = slice_index_or s.graph.now.edges c.args.at no_edge in
    subst (λ (o : Option EdgeWork). ∥ IsWorkOf p s.graph.now x o ∥₁)
    (ap (λ o. o >>= slice_get s.works.items) (sym c.place.ensures ∙ c.in-None.is))
    (work_at p s.graph.now s.works.items s.places.items c.args.at s.placed c.requires)
