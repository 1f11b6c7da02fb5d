use Rattle.std.proofs.Common.{◌∙◌}
use Rattle.interval_domain.specs.Rows.{cells_of}
use Rattle.cell_layer.proofs.Leaving.{can_walk, marks_of_work}
use Rattle.diff_layer.specs.GraphWorks.{program_of, graph_of, packs_of, edge_of, matrices_of}
use Rattle.diff_layer.proofs.EdgeOperands.{of_edge, plans_of_work}
use Rattle.diff_layer.proofs.EdgesWalked.{walks_it, walks_none}
use Rattle.diff_layer.proofs.layer.edges.walk_edge.Goals as goal

pub invariant_of-edge : goal.invariant_of-edge
invariant_of-edge c =
    let a = c.args in
    let e = a.edges.now in
    let w = c.in-Some.work.now in
    let work = rw c.in-Some.is at c.at.ensures in
    let can = can_walk (program_of e) (graph_of e) (edge_of e a.at) w work e.works.now.source c.get.result.now a.row.now c.get.ensures c.requires.reached c.requires.fits in
    record {
      packs = plans_of_work (program_of e) (graph_of e) (edge_of e a.at) w work e.plans.now e.packs;
      marked = marks_of_work (program_of e) (graph_of e) (edge_of e a.at) w work e.works.now.graph.now.cells c.get.result.now e.works.now.marks.items c.as_slice.result.now
          c.get.ensures c.as_slice.ensures.value e.works.now.marked;
      small_cells = can.small_cells;
      small = can.small;
      of_edge = of_edge (program_of e) (graph_of e) (edge_of e a.at) w work e.works.now.source;
    }

pub walk_packs-requires-clause-row : goal.walk_packs-requires-clause-row
walk_packs-requires-clause-row c =
    let a = c.args in
    let e = a.edges.now in
    (can_walk (program_of e) (graph_of e) (edge_of e a.at) c.in-Some.work.now (rw c.in-Some.is at c.at.ensures) e.works.now.source c.get.result.now a.row.now c.get.ensures
    c.requires.reached c.requires.fits).row_of

pub walk_packs-requires-clause-fits : goal.walk_packs-requires-clause-fits
walk_packs-requires-clause-fits c =
    let a = c.args in
    let e = a.edges.now in
    (can_walk (program_of e) (graph_of e) (edge_of e a.at) c.in-Some.work.now (rw c.in-Some.is at c.at.ensures) e.works.now.source c.get.result.now a.row.now c.get.ensures
    c.requires.reached c.requires.fits).fits

pub returns-in-Some : goal.returns-in-Some
returns-in-Some c =
    let a = c.args in
    let e = a.edges.now in
    walks_it (program_of e) (graph_of e) (packs_of e) (edge_of e a.at) (cells_of a.row.now) (matrices_of e a.out.now) c.in-Some.work.now (rw c.in-Some.is at c.at.ensures)
    ∙ c.walk_packs.ensures

pub returns-in-None : goal.returns-in-None
returns-in-None c =
    let a = c.args in
    let e = a.edges.now in
    walks_none (program_of e) (graph_of e) (packs_of e) (edge_of e a.at) (cells_of a.row.now) (matrices_of e a.out.now) (rw c.in-None.is at c.at.ensures)
