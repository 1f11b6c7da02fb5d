use Rattle.cob_program.specs.ActView.{plain_program}
use Rattle.cert_text.specs.View.{view}
use Rattle.interval_domain.specs.Rows.{lists_of}
use Rattle.cert_check.proofs.Answering.{have_elements, refuses}
use Rattle.cert_check.proofs.certificate.leak_at.Goals as goal

pub arrive-requires-clause-rows : goal.arrive-requires-clause-rows
arrive-requires-clause-rows c =
    have_elements (plain_program c.args.layer.now.program.now) c.args.layer.now.graph.now (view c.args.rows.now.cert.now)
    (lists_of c.args.layer.now.thresholds.now) c.args.rows.now.owns.now c.requires.given.own

pub returns : goal.returns
returns c =
    refuses (plain_program c.args.layer.now.program.now) c.args.layer.now.graph.now (view c.args.rows.now.cert.now)
    (lists_of c.args.layer.now.thresholds.now) c.args.rows.now.owns.now c.requires.given.own c.requires.given.source (record { cells = c.requires.given.cells; nodes = c.requires.given.nodes })
    c.args.edge c.gap_at-gap.result c.requires.leak c.gap_at-gap.ensures
