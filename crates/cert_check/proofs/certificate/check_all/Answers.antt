use Rattle.std.proofs.Common.{ap, length}
use Rattle.cob_program.specs.ActView.{plain_program}
use Rattle.cert_text.specs.View.{view}
use Rattle.cert_check.proofs.Sources.{misfit_answer, shape_answer}
use Rattle.cert_check.proofs.certificate.check_all.Goals as goal

pub check_shaped-requires-clause-shape : goal.check_shaped-requires-clause-shape
check_shaped-requires-clause-shape c =
    shape_answer (plain_program c.args.program.now) c.args.graph.now (view c.args.cert.now) c.requires.source c.fit_shape.result _ _
    (ap length c.get.ensures) (ap length c.get-2.ensures) c.fit_shape.ensures c.in-Ok.field-0 c.in-Ok.is

pub returns-in-Err : goal.returns-in-Err
returns-in-Err c =
    misfit_answer (plain_program c.args.program.now) c.args.graph.now (view c.args.cert.now) c.requires.source c.fit_shape.result _ _
    (ap length c.get.ensures) (ap length c.get-2.ensures) c.fit_shape.ensures c.in-Err.end c.in-Err.is
