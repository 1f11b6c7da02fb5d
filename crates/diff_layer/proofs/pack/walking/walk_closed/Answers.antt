use Rattle.std.proofs.Common.{◌≤◌, ◌<◌, length, get_or, None, rules, ap, subst, ◌∙◌}
use Rattle.interval_domain.specs.Rows.{cells_of}
use Rattle.cell_laws.specs.Sizes.{IsSmallPart}
use Rattle.cell_layer.specs.Works.{program_of, act_of}
use Rattle.diff_layer.specs.AtMostOne.{small_prop, of_edge_prop}
use Rattle.diff_layer.specs.Parts.{IsOfEdge}
use Rattle.diff_layer.specs.Plans.{matrices_for}
use Rattle.diff_layer.specs.Works.{parts_of_edge}
use Rattle.diff_layer.proofs.Walked.{held_of}
use Rattle.diff_layer.proofs.WalkSteps.{walk_begins, walks_on, walk_stops, walked_whole, walk_ends}
use Rattle.diff_layer.proofs.pack.walking.walk_closed.Goals as goal

pub loop-part-init : goal.loop-part-init
loop-part-init c =
    let x = c.args in
    walk_begins x.edge.now x.row.now x.before.now c.new.result x.out.now c.requires.row c.requires.room c.requires.fits
    c.requires.matrices (c.new.ensures.begins x.row.now)

pub step-requires-clause-small : goal.step-requires-clause-small
step-requires-clause-small c =
    let w = c.args.edge.now.work.now in
    let k = c.loop-part in
    let part = c.part-item.result in
    held_of (IsSmallPart (program_of w) (act_of w) w.action) (small_prop (program_of w) (act_of w) w.action) w.parts.items (parts_of_edge w) k.part-index part w.listed c.args.edge.now.small
    (subst (λ ps. k.part-index < length ps) c.as_slice-parts.ensures.value c.loop-part-test.true)
    (c.part-item.is ∙ ap (λ ps. get_or ps k.part-index part) c.as_slice-parts.ensures.value)

pub step-requires-clause-of_edge : goal.step-requires-clause-of_edge
step-requires-clause-of_edge c =
    let w = c.args.edge.now.work.now in
    let k = c.loop-part in
    let part = c.part-item.result in
    held_of (IsOfEdge (program_of w) (act_of w) w.action) (of_edge_prop (program_of w) (act_of w) w.action) w.parts.items (parts_of_edge w) k.part-index part w.listed c.args.edge.now.of_edge
    (subst (λ ps. k.part-index < length ps) c.as_slice-parts.ensures.value c.loop-part-test.true)
    (c.part-item.is ∙ ap (λ ps. get_or ps k.part-index part) c.as_slice-parts.ensures.value)

pub loop-part-preserved : goal.loop-part-preserved
loop-part-preserved c =
    let x = c.args in
    let k = c.loop-part in
    let part = c.part-item.result in
    walks_on x.edge.now part k.row k.before k.state k.out c.step.new.row c.step.new.before c.step.new.state c.step.new.out c.step.result c.step.ensures.steps
    (cells_of x.row.now) (matrices_for x.edge.now.plans.now x.out.now) k.part-index
    (subst (λ ps. k.part-index < length ps) c.as_slice-parts.ensures.value c.loop-part-test.true)
    (c.part-item.is ∙ ap (λ ps. get_or ps k.part-index part) c.as_slice-parts.ensures.value)
    k.invariant (search rules) c.step.ensures.writes c.step.ensures.row c.step.ensures.room (c.step.ensures.can (search rules)) (c.step.ensures.matrices (search rules))

pub returns-then-not-step : goal.returns-then-not-step
returns-then-not-step c =
    let x = c.args in
    let k = c.loop-part in
    let part = c.part-item.result in
    walked_whole x.edge.now (cells_of x.row.now) (matrices_for x.edge.now.plans.now x.out.now) None
    (walk_stops x.edge.now part k.row k.before k.state k.out c.step.new.row c.step.new.before c.step.new.state c.step.new.out c.step.result c.step.ensures.steps
    (cells_of x.row.now) (matrices_for x.edge.now.plans.now x.out.now) k.part-index
    (subst (λ ps. k.part-index < length ps) c.as_slice-parts.ensures.value c.loop-part-test.true)
    (c.part-item.is ∙ ap (λ ps. get_or ps k.part-index part) c.as_slice-parts.ensures.value)
    k.invariant (search rules))

pub returns : goal.returns
returns c =
    let x = c.args in
    let k = c.loop-part in
    let past : length c.as_slice-parts.result.now ≤ k.part-index = search rules in
    walk_ends x.edge.now (cells_of x.row.now) (matrices_for x.edge.now.plans.now x.out.now) k.part-index k.row k.before k.state k.out
    c.is_taken.result k.invariant (subst (λ ps. length ps ≤ k.part-index) c.as_slice-parts.ensures.value past) c.is_taken.ensures
