use Rattle.std.proofs.Common.{if◌then◌else◌, Some, None, sym, ap, ◌∙◌}
use Rattle.cob_program.specs.Values.{◌>>=◌}
use Rattle.interval_domain.specs.Rows.{cells_of}
use Rattle.cell_layer.specs.Works.{program_of, statement_of}
use Rattle.diff_layer.specs.Plans.{plain_plans, matrices_for}
use Rattle.diff_layer.specs.Walks.{closed_walked}
use Rattle.diff_layer.proofs.pack.walking.walk_packs.Goals as goal

pub returns-then-close_all : goal.returns-then-close_all
returns-then-close_all c =
    let x = c.args in
    let w = x.edge.now.work.now in
    ap (λ o. o >>= closed_walked (program_of w) (plain_plans x.edge.now.plans.now) (statement_of w) w.action (cells_of x.row.now))
    (c.close_all.ensures.closed ∙ ap (λ b. if b then Some (matrices_for x.edge.now.plans.now c.close_all.new.out) else None) c.if-close_all.true)
    ∙ c.walk_closed.ensures

pub returns-else-close_all : goal.returns-else-close_all
returns-else-close_all c =
    let x = c.args in
    let w = x.edge.now.work.now in
    ap (λ o. o >>= closed_walked (program_of w) (plain_plans x.edge.now.plans.now) (statement_of w) w.action (cells_of x.row.now))
    (c.close_all.ensures.closed ∙ ap (λ b. if b then Some (matrices_for x.edge.now.plans.now c.close_all.new.out) else None) c.if-close_all.false)
    ∙ sym (ap (λ b. if b then Some (matrices_for x.edge.now.plans.now c.close_all.new.out) else None) c.if-close_all.false)
