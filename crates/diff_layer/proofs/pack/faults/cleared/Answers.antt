use Rattle.std.proofs.Common.{sym, ap, subst, ◌∙◌}
use Rattle.cob_tree.specs.Kinds.{kinds_of}
use Rattle.edge_parts.specs.PartView.{plain_part}
use Rattle.cell_laws.specs.Sizes.{IsSmallPart}
use Rattle.cell_layer.specs.Kept.{seen}
use Rattle.cell_layer.specs.Walks.{clears_small, CanStep}
use Rattle.cell_layer.specs.Works.{program_of}
use Rattle.diff_steps.specs.Clearing.{clears_part2}
use Rattle.diff_layer.specs.PackWriting.{are_written}
use Rattle.diff_layer.specs.Parts.{IsOfEdge}
use Rattle.diff_layer.specs.Plans.{plain_plans, matrices_for}
use Rattle.diff_layer.specs.Walks.{seen2}
use Rattle.diff_layer.specs.Writing.{edge_items}
use Rattle.diff_layer.proofs.ClearedAt.{act_is}
use Rattle.diff_layer.proofs.pack.faults.cleared.Goals as goal

pub kinds_cleared-requires-clause-small : goal.kinds_cleared-requires-clause-small
kinds_cleared-requires-clause-small c =
    let w = c.args.edge.now.work.now in
    subst (λ a. IsSmallPart (program_of w) a w.action (plain_part c.args.part.now)) (sym (act_is w.statement.now)) c.requires.small

pub kinds_cleared-requires-clause-of_edge : goal.kinds_cleared-requires-clause-of_edge
kinds_cleared-requires-clause-of_edge c =
    let w = c.args.edge.now.work.now in
    subst (λ a. IsOfEdge (program_of w) a w.action (plain_part c.args.part.now)) (sym (act_is w.statement.now)) c.requires.of_edge

pub kinds_cleared-requires-clause-can : goal.kinds_cleared-requires-clause-can
kinds_cleared-requires-clause-can c =
    let w = c.args.edge.now.work.now in
    subst (λ a. CanStep (program_of w) a w.action (seen c.args.row.now c.args.state.kept)) (sym (act_is w.statement.now)) c.requires.can

pub kinds_cleared-requires-clause-cells : goal.kinds_cleared-requires-clause-cells
kinds_cleared-requires-clause-cells c =
    let w = c.args.edge.now.work.now in
    c.cleared_by_part-by_cells.ensures
    ∙ ap (λ a. kinds_of (clears_small (program_of w) a w.action (plain_part c.args.part.now) (seen c.args.row.now c.args.state.kept))) (sym (act_is w.statement.now))

pub returns : goal.returns
returns c wrote written =
    let x = c.args in
    let w = x.edge.now.work.now in
    let p = program_of w in
    c.kinds_cleared.ensures wrote (written ∙ ap (λ a. are_written p.layout wrote (edge_items a w.action)) (sym (act_is w.statement.now)))
    ∙ ap (λ a. kinds_of (clears_part2 p (plain_plans x.edge.now.plans.now) a w.action (plain_part x.part.now) (seen x.row.now x.state.kept) (seen2 wrote (matrices_for x.edge.now.plans.now x.out.now))))
    (act_is w.statement.now)
