use Rattle.std.proofs.Common.{◌||◌, sym, ap, subst, ◌∙◌}
use Rattle.edge_parts.specs.PartView.{plain_part}
use Rattle.interval_domain.specs.Rows.{cells_of}
use Rattle.cell_layer.specs.Kept.{seen, latest_of}
use Rattle.cell_layer.specs.Works.{program_of, act_of}
use Rattle.diff_layer.specs.Closed.{IsClosedRow}
use Rattle.diff_layer.specs.PackWriting.{are_written}
use Rattle.diff_layer.specs.Parts.{CanChange}
use Rattle.diff_layer.specs.Plans.{plain_plans, matrices_for}
use Rattle.diff_layer.specs.Works.{bytes_of}
use Rattle.diff_layer.specs.Writing.{edge_items}
use Rattle.diff_layer.proofs.Items.{written_more}
use Rattle.diff_layer.proofs.Stepped.{written_to, can_change, stepped}
use Rattle.diff_layer.proofs.pack.walking.step.Goals as goal

pub pass_matrices-requires-clause-can : goal.pass_matrices-requires-clause-can
pass_matrices-requires-clause-can c =
    let x = c.args in
    let w = x.edge.now.work.now in
    let s = seen x.row.now x.state.now.kept in
    let t = seen c.walk_part-passes.new.row c.walk_part-passes.new.kept in
    let part = plain_part x.part.now in
    subst (λ row. CanChange (program_of w) (cells_of row) c.walk_part-passes.new.kept.common part) (sym c.copy_from_slice.ensures.after)
    (can_change (program_of w) (act_of w) w.action part s t c.requires.small c.requires.of_edge c.requires.can (c.walk_part-passes.ensures.on c.if-passes.true))

pub pass_matrices-requires-clause-matrices : goal.pass_matrices-requires-clause-matrices
pass_matrices-requires-clause-matrices c =
    let x = c.args in
    subst (λ row. IsClosedRow (program_of x.edge.now.work.now) (cells_of row) x.edge.now.plans.now x.out.now) (sym c.copy_from_slice.ensures.after) c.requires.matrices

pub returns-then-passes-clause-steps : goal.returns-then-passes-clause-steps
returns-then-passes-clause-steps c wrote written =
    let x = c.args in
    let w = x.edge.now.work.now in
    let p = program_of w in
    let s = seen x.row.now x.state.now.kept in
    let t = seen c.walk_part-passes.new.row c.walk_part-passes.new.kept in
    let part = plain_part x.part.now in
    stepped p (act_of w) w.action (plain_plans x.edge.now.plans.now) part s t (cells_of c.copy_from_slice.new.self) (latest_of c.walk_part-passes.new.kept) (latest_of x.state.now.kept) wrote
    (matrices_for x.edge.now.plans.now x.out.now) (matrices_for x.edge.now.plans.now c.pass_matrices.new.out) c.pass_matrices.result c.requires.small
    (c.walk_part-passes.ensures.on c.if-passes.true) c.walk_part-passes.ensures.latest
    (ap cells_of c.copy_from_slice.ensures.after) (c.pass_matrices.ensures.closed wrote (written_to p (act_of w) w.action part wrote x.state.now.written c.requires.of_edge written))

pub returns-then-passes-clause-writes : goal.returns-then-passes-clause-writes
returns-then-passes-clause-writes c wrote written =
    let w = c.args.edge.now.work.now in
    let l = (program_of w).layout in
    let items = edge_items (act_of w) w.action in
    let bs = bytes_of w (plain_part c.args.part.now) in
    c.written_behind.ensures ∙ (ap (λ b. b || are_written l bs items) written ∙ sym (written_more l bs wrote items))

pub returns-else-passes-clause-writes : goal.returns-else-passes-clause-writes
returns-else-passes-clause-writes c wrote written =
    let w = c.args.edge.now.work.now in
    let l = (program_of w).layout in
    let items = edge_items (act_of w) w.action in
    let bs = bytes_of w (plain_part c.args.part.now) in
    c.written_behind.ensures ∙ (ap (λ b. b || are_written l bs items) written ∙ sym (written_more l bs wrote items))
