use Rattle.std.proofs.Common.{◌<◌, List, length, get_or, ap, subst, ◌∙◌}
use Rattle.edge_parts.specs.declared.part.EdgePart.{EdgePart}
use Rattle.cell_laws.specs.Sizes.{IsSmallPart}
use Rattle.cell_layer.specs.Works.{program_of, act_of}
use Rattle.cell_layer.proofs.Walked.{holds_next}
use Rattle.layer_driver.proofs.subscripts.walk_parts.Goals as goal

pub walk_part-requires-clause-small : goal.walk_part-requires-clause-small
walk_part-requires-clause-small c =
    let w = c.args.work.now in
    let ps = w.parts.items in
    let i = c.loop-part.part-index in
    let y = c.part-item.result in
    let value = c.as_slice-part-items.ensures.value in
    let within = subst (λ (zs : List EdgePart). i < length zs) value c.loop-part-test.true in
    let is = c.part-item.is ∙ ap (λ (zs : List EdgePart). get_or zs i y) value in
    (holds_next (IsSmallPart (program_of w) (act_of w) w.action) ps i y within is c.loop-part.invariant.small).0

pub loop-part-preserved : goal.loop-part-preserved
loop-part-preserved c =
    let w = c.args.work.now in
    let ps = w.parts.items in
    let i = c.loop-part.part-index in
    let y = c.part-item.result in
    let value = c.as_slice-part-items.ensures.value in
    let within = subst (λ (zs : List EdgePart). i < length zs) value c.loop-part-test.true in
    let is = c.part-item.is ∙ ap (λ (zs : List EdgePart). get_or zs i y) value in
    record {
      row_of = c.walk_part.ensures.row;
      can = c.walk_part.ensures.can c.if-not-walk_part.false;
      small = (holds_next (IsSmallPart (program_of w) (act_of w) w.action) ps i y within is c.loop-part.invariant.small).1;
    }
