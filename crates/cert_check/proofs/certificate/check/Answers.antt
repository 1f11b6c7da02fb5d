use Rattle.cob_program.specs.ActView.{plain_program}
use Rattle.cert_text.specs.View.{view}
use Rattle.cert_check.proofs.Covering.{answer_covers}
use Rattle.cert_check.proofs.LayerLaws.{layer_laws}
use Rattle.cert_check.proofs.certificate.check.Goals as goal

pub returns-clause-sound : goal.returns-clause-sound
returns-clause-sound c =
    let p = plain_program c.args.program.now in
    let g = c.args.graph.now in
    answer_covers p g (view c.args.cert.now) c.check_all.result c.requires.source (layer_laws p g c.requires.source) c.requires.allowed
    c.check_all.ensures
