use Rattle.std.proofs.Common.{◌≡◌}
use Rattle.cob_program.specs.ActView.{plain_program}
use Rattle.cell_layer.specs.Works.{AreFirstPlaces}
use Rattle.cell_layer.proofs.layer.works.EdgeWorks.new.Given as goal

abbrev pub invariant-loop-edge : goal.invariant-loop-edge
invariant-loop-edge l = record {
  program : l.sharing.program.now ≡ l.program;
  graph : l.sharing.graph.now ≡ l.graph;
  places : AreFirstPlaces (plain_program l.program) l.graph l.sharing.works.items l.edge-index l.places.items;
}
