use Rattle.std.proofs.Common.{◌+◌, List, ap, subst, sym, ◌∙◌}
use Rattle.std.specs.Prelude.{slice_index_or}
use Rattle.cob_program.specs.ActView.{plain_program}
use Rattle.cob_program.specs.Act.{Program}
use Rattle.cob_graph.specs.declared.graph.Edge.{Edge}
use Rattle.cob_graph.specs.declared.graph.Graph.{Graph}
use Rattle.graph_runs.specs.Places.{no_edge}
use Rattle.cell_layer.specs.Works.{IsPlaceOf, AreFirstPlaces}
use Rattle.cell_layer.proofs.Making.{cells_are}
use Rattle.cell_layer.proofs.WorkPlaces.{one_more_place}
use Rattle.cell_layer.proofs.layer.works.EdgeWorks.new.Goals as goal

pub marks_of_cells-requires : goal.marks_of_cells-requires
marks_of_cells-requires c = c.get.ensures ∙ cells_are (plain_program c.args.program.now) c.args.graph.now c.requires.source

pub loop-edge-preserved : goal.loop-edge-preserved
loop-edge-preserved c =
    let p = plain_program c.args.program.now in
    let g = c.args.graph.now in
    let inv = c.loop-edge.invariant in
    let i = c.loop-edge.edge-index in
    let new = c.place_of.new.self.works.items in
    let x = slice_index_or c.get-edge-items.result.now i no_edge in
    let at_graph = subst (λ (h : Graph). ∥ IsPlaceOf (plain_program c.loop-edge.sharing.program.now) h new x c.in_ok-place.place ∥₁) inv.graph
    c.in_ok-place.ensures.place in
    let here = subst (λ (q : Program). ∥ IsPlaceOf q g new x c.in_ok-place.place ∥₁) (ap plain_program inv.program) at_graph in
    record {
      program = c.place_of.ensures.program ∙ inv.program;
      graph = c.place_of.ensures.graph ∙ inv.graph;
      places = subst (AreFirstPlaces p g new (i + 1)) (sym c.in_ok-push.ensures.items)
          (one_more_place p g c.loop-edge.sharing.works.items new c.in_ok-place.ensures.more i c.loop-edge.places.items c.in_ok-place.place x
          (ap (λ (xs : List Edge). slice_index_or xs i no_edge) c.get-edge-items.ensures) here inv.places);
    }
