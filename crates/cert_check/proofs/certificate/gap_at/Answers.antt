use Rattle.std.proofs.Common.{◌≡◌, ap, ◌∙◌, subst, length, arith}
use Rattle.std.specs.List.{All}
use Rattle.cob_program.specs.ActView.{plain_program}
use Rattle.cert_text.specs.View.{view, place_of}
use Rattle.interval_domain.specs.Rows.{lists_of}
use Rattle.cert_text.specs.Claims.{place_at}
use Rattle.cert_text.specs.Gaps.{IsSmall}
use Rattle.cell_steps.specs.OwnRanges.{owns}
use Rattle.cert_check.proofs.Asking.{is_said, is_small, place_there, claims_there}
use Rattle.cert_check.proofs.LayerLaws.{layer_laws}
use Rattle.cert_check.proofs.Leaking.{first_gap_is, there_is_a_gap}
use Rattle.cert_check.proofs.certificate.gap_at.Goals as goal

pub first_gap-requires-clause-said : goal.first_gap-requires-clause-said
first_gap-requires-clause-said c =
    is_said (owns (plain_program c.args.layer.now.program.now)) (lists_of c.args.layer.now.thresholds.now) c.args.row.now c.requires.element

pub first_gap-requires-clause-width : goal.first_gap-requires-clause-width
first_gap-requires-clause-width c =
    let width = c.requires.element.width in
    let same : length c.args.rows.now.owns.now ≡ length (owns (plain_program c.args.layer.now.program.now)) = ap length c.requires.given.own in
    omega (arith, width, same)

pub first_gap-requires-clause-small : goal.first_gap-requires-clause-small
first_gap-requires-clause-small c =
    is_small (owns (plain_program c.args.layer.now.program.now)) (lists_of c.args.layer.now.thresholds.now) c.args.row.now c.requires.element
    (subst (All IsSmall) c.requires.given.own c.requires.given.small)

pub first_gap-requires-clause-claims : goal.first_gap-requires-clause-claims
first_gap-requires-clause-claims c =
    claims_there c.args.rows.now.cert.now (length c.args.layer.now.graph.now.nodes) c.led_to-node.result c.index.result.now c.index.result.now
    c.index.ensures c.led_to-node.ensures.node.first c.led_to-node.ensures.node.last c.requires.given.nodes c.requires.given.allowed

pub unreachable-requires : goal.unreachable-requires
unreachable-requires c =
    let p = plain_program c.args.layer.now.program.now in
    let g = c.args.layer.now.graph.now in
    let cert = c.args.rows.now.cert.now in
    let there = (place_there cert (length g.nodes) c.led_to-node.result c.index.result.now c.index.result.now c.index.ensures
    c.led_to-node.ensures.node.first c.led_to-node.ensures.node.last c.requires.given.nodes).1 in
    there_is_a_gap p g (view cert) (lists_of c.args.layer.now.thresholds.now) (layer_laws p g c.requires.given.source) c.args.edge c.args.rows.now.owns.now
    c.args.row.now (place_of c.index.result.now) c.requires.given.own c.requires.row (there ∙ ap (place_at (view cert)) c.led_to-node.ensures.value)
    c.first_gap.result c.first_gap.ensures c.in-None.is c.requires.leak

pub returns : goal.returns
returns c =
    let p = plain_program c.args.layer.now.program.now in
    let g = c.args.layer.now.graph.now in
    let cert = c.args.rows.now.cert.now in
    let there = (place_there cert (length g.nodes) c.led_to-node.result c.index.result.now c.index.result.now c.index.ensures
    c.led_to-node.ensures.node.first c.led_to-node.ensures.node.last c.requires.given.nodes).1 in
    first_gap_is p g (view cert) (lists_of c.args.layer.now.thresholds.now) (layer_laws p g c.requires.given.source) c.args.edge c.args.rows.now.owns.now
    c.args.row.now (place_of c.index.result.now) c.requires.given.own c.requires.row (there ∙ ap (place_at (view cert)) c.led_to-node.ensures.value)
    c.first_gap.result c.first_gap.ensures ∙ c.in-Some.is
