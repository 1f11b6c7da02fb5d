use Rattle.std.proofs.Common.{sym, ◌∙◌}
use Rattle.cob_program.specs.ActView.{plain_program}
use Rattle.cert_text.specs.View.{view}
use Rattle.interval_domain.specs.Rows.{lists_of}
use Rattle.cert_check.proofs.LayerLaws.{layer_laws}
use Rattle.cert_check.proofs.Leaking.{no_leaks}
use Rattle.cert_check.proofs.PackNumbers.{no_packs, some_packs}
use Rattle.cert_check.proofs.certificate.check_beside.Goals as goal

pub left_open-requires-clause-plain : goal.left_open-requires-clause-plain
left_open-requires-clause-plain c = no_packs _ _ c.as_slice.ensures.value (sym c.is_empty.ensures ∙ c.if-is_empty.true)

pub check_packs-requires-clause-some : goal.check_packs-requires-clause-some
check_packs-requires-clause-some c = some_packs _ _ c.as_slice.ensures.value (sym c.is_empty.ensures ∙ c.if-is_empty.false)

pub check_packs-requires-clause-inductive : goal.check_packs-requires-clause-inductive
check_packs-requires-clause-inductive c =
    let p = plain_program c.args.layer.now.program.now in
    let g = c.args.layer.now.graph.now in
    no_leaks p g (view c.args.rows.now.cert.now) (lists_of c.args.layer.now.thresholds.now) (layer_laws p g c.requires.given.source) c.requires.inductive
