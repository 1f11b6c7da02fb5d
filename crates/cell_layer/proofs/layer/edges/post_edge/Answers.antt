use Rattle.std.proofs.Common.{◌∙◌}
use Rattle.std.specs.Prelude.{slice_index_or}
use Rattle.cob_program.specs.ActView.{plain_program}
use Rattle.interval_domain.specs.Rows.{cells_of}
use Rattle.graph_runs.specs.Places.{no_edge}
use Rattle.cell_layer.proofs.Leaving.{can_walk, marks_of_work, posts_by, posts_none}
use Rattle.cell_layer.proofs.layer.edges.post_edge.Goals as goal

pub walk_edge-requires-clause-marks : goal.walk_edge-requires-clause-marks
walk_edge-requires-clause-marks c =
    let a = c.args in
    let works = a.works.now in
    marks_of_work (plain_program works.program.now) works.graph.now (slice_index_or works.graph.now.edges a.at no_edge) c.in-Some.work.now
    c.in-Some.ensures works.graph.now.cells c.get.result.now works.marks.items c.as_slice.result.now c.get.ensures c.as_slice.ensures.value works.marked

pub walk_edge-requires-clause-can : goal.walk_edge-requires-clause-can
walk_edge-requires-clause-can c =
    let a = c.args in
    let works = a.works.now in
    can_walk (plain_program works.program.now) works.graph.now (slice_index_or works.graph.now.edges a.at no_edge) c.in-Some.work.now
    c.in-Some.ensures works.source c.get.result.now a.row.now c.get.ensures c.requires.reached c.requires.fits

pub returns-in-Some : goal.returns-in-Some
returns-in-Some c =
    let a = c.args in
    let works = a.works.now in
    c.walk_edge.ensures
    ∙ posts_by (plain_program works.program.now) works.graph.now (slice_index_or works.graph.now.edges a.at no_edge) c.in-Some.work.now
    c.in-Some.ensures (cells_of a.row.now)

pub returns-in-None : goal.returns-in-None
returns-in-None c =
    let a = c.args in
    let works = a.works.now in
    c.requires.reached
    ∙ posts_none (plain_program works.program.now) works.graph.now (slice_index_or works.graph.now.edges a.at no_edge) c.in-None.ensures
    (cells_of a.row.now)
