use Rattle.std.proofs.Common.{Some, None, ap, ◌∙◌, sym}
use Rattle.interval_domain.specs.Rows.{cells_of, row_from, width_of}
use Rattle.cell_steps.specs.OwnRanges.{owns}
use Rattle.cell_steps.specs.Edges.{finished}
use Rattle.cell_layer.specs.Walks.{steps_small}
use Rattle.cell_layer.specs.Kept.{seen}
use Rattle.cell_layer.specs.Works.{program_of, act_of, parts_in}
use Rattle.cell_layer.proofs.Walking.{can_begin, width_is, small_listed, post_is}
use Rattle.cell_layer.proofs.layer.edges.walk_edge.Goals as goal

pub walk_parts-requires-clause-small : goal.walk_parts-requires-clause-small
walk_parts-requires-clause-small c = small_listed c.args.work.now (cells_of c.args.row.now) c.requires.can.small

pub walk_parts-requires-clause-can : goal.walk_parts-requires-clause-can
walk_parts-requires-clause-can c =
    let w = c.args.work.now in
    can_begin (program_of w) (act_of w) w.action (seen c.args.row.now c.new-kept.result) (cells_of c.args.row.now)
    (c.new-kept.ensures.begins c.args.row.now) c.requires.can.fits

pub returns-then-walk_parts : goal.returns-then-walk_parts
returns-then-walk_parts c =
    let w = c.args.work.now in
    let p = program_of w in
    let t = seen c.walk_parts.new.row c.walk_parts.new.kept in
    c.finish.ensures
    ∙ ap (λ n. row_from n (finished p (act_of w) w.action (Some t))) (width_is p c.args.cells.now c.walk_parts.new.row c.walk_parts.ensures.row)
    ∙ post_is w (cells_of c.args.row.now) c.requires.can.small (width_of (owns p)) (Some t)
    (sym (c.walk_parts.ensures.on c.if-walk_parts.true)
    ∙ ap (steps_small p (act_of w) w.action (parts_in w)) (c.new-kept.ensures.begins c.args.row.now))

pub returns-else-walk_parts : goal.returns-else-walk_parts
returns-else-walk_parts c =
    let w = c.args.work.now in
    let p = program_of w in
    c.set_unreached.ensures
    ∙ ap (λ n. row_from n None) (width_is p c.args.cells.now c.walk_parts.new.row c.walk_parts.ensures.row)
    ∙ post_is w (cells_of c.args.row.now) c.requires.can.small (width_of (owns p)) None
    (sym (c.walk_parts.ensures.off c.if-walk_parts.false)
    ∙ ap (steps_small p (act_of w) w.action (parts_in w)) (c.new-kept.ensures.begins c.args.row.now))
