use Rattle.std.proofs.Common.{ap}
use Rattle.std.specs.Prelude.{is_some}
use Rattle.cob_program.specs.ActView.{plain_program}
use Rattle.cert_text.specs.View.{view}
use Rattle.interval_domain.specs.Rows.{cells_lattice, lists_of}
use Rattle.cell_steps.specs.OwnRanges.{owns}
use Rattle.cell_laws.specs.Layer.{cell_flow}
use Rattle.cert_check.proofs.Answering.{have_elements}
use Rattle.cert_check.proofs.Asking.{inductive_there}
use Rattle.cert_check.proofs.certificate.check_edges.Goals as goal

pub pass-requires-clause-rows : goal.pass-requires-clause-rows
pass-requires-clause-rows c =
    have_elements (plain_program c.args.layer.now.program.now) c.args.layer.now.graph.now (view c.args.rows.now.cert.now)
    (lists_of c.args.layer.now.thresholds.now) c.args.rows.now.owns.now c.requires.given.own

pub check_beside-requires-clause-inductive : goal.check_beside-requires-clause-inductive
check_beside-requires-clause-inductive c =
    let p = plain_program c.args.layer.now.program.now in
    let g = c.args.layer.now.graph.now in
    inductive_there p g (view c.args.rows.now.cert.now) c.args.rows.now.owns.now c.requires.given.own
    (cells_lattice (owns p) (lists_of c.args.layer.now.thresholds.now)) (cell_flow p g) (c.pass.ensures.none.0 (ap is_some c.in-None.is))
