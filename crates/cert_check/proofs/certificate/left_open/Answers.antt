use Rattle.cob_program.specs.ActView.{plain_program}
use Rattle.cert_text.specs.View.{view}
use Rattle.interval_domain.specs.Rows.{cells_lattice, lists_of}
use Rattle.cell_steps.specs.OwnRanges.{owns}
use Rattle.cell_laws.specs.Layer.{cell_flow}
use Rattle.cert_check.proofs.Answering.{accepts}
use Rattle.cert_check.proofs.Asking.{inductive_back}
use Rattle.cert_check.proofs.certificate.left_open.Goals as goal

pub open_pairs-requires-clause-inductive : goal.open_pairs-requires-clause-inductive
open_pairs-requires-clause-inductive c =
    let p = plain_program c.args.layer.now.program.now in
    let g = c.args.layer.now.graph.now in
    inductive_back p g (view c.args.rows.now.cert.now) c.args.rows.now.owns.now c.requires.given.own
    (cells_lattice (owns p) (lists_of c.args.layer.now.thresholds.now)) (cell_flow p g) c.requires.inductive

pub returns : goal.returns
returns c =
    accepts (plain_program c.args.layer.now.program.now) c.args.layer.now.graph.now (view c.args.rows.now.cert.now)
    (lists_of c.args.layer.now.thresholds.now) c.args.rows.now.owns.now c.requires.given.own c.requires.given.source (record { cells = c.requires.given.cells; nodes = c.requires.given.nodes })
    c.requires.plain c.in_ok-pairs.pairs.items c.requires.inductive c.in_ok-pairs.ensures
