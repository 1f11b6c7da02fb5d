use Rattle.std.specs.Prelude.{slice_index_or}
use Rattle.cob_program.specs.ActView.{plain_program}
use Rattle.graph_runs.specs.Places.{no_edge}
use Rattle.cell_layer.proofs.Leaving.{can_walk, marks_of_work}
use Rattle.layer_driver.proofs.subscripts.outcome_at.Goals as goal

pub outcome_if_small-requires-clause-marks : goal.outcome_if_small-requires-clause-marks
outcome_if_small-requires-clause-marks c =
    let works = c.args.works.now in
    marks_of_work (plain_program works.program.now) works.graph.now (slice_index_or works.graph.now.edges c.args.at no_edge) c.in-Some.work.now
    c.in-Some.ensures works.graph.now.cells c.get.result.now works.marks.items c.as_slice.result.now c.get.ensures c.as_slice.ensures.value works.marked

pub outcome_if_small-requires-clause-can : goal.outcome_if_small-requires-clause-can
outcome_if_small-requires-clause-can c =
    let works = c.args.works.now in
    can_walk (plain_program works.program.now) works.graph.now (slice_index_or works.graph.now.edges c.args.at no_edge) c.in-Some.work.now
    c.in-Some.ensures c.requires.source c.get.result.now c.args.row.now c.get.ensures c.requires.reached c.requires.fits
