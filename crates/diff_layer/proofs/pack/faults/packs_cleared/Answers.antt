use Rattle.std.proofs.Common.{◌≡◌, true, false, if◌then◌else◌, Some, None, rules, sym, ap, ◌∙◌}
use Rattle.std.specs.Option.{option_map_or}
use Rattle.cob_tree.specs.Kinds.{kinds_of}
use Rattle.interval_domain.specs.Rows.{cells_of}
use Rattle.diff_layer.specs.Plans.{plain_plans, matrices_for}
use Rattle.diff_layer.specs.Walks.{closed_clears}
use Rattle.cell_layer.specs.Works.{program_of, statement_of}
use Rattle.diff_layer.proofs.pack.faults.packs_cleared.Goals as goal

pub returns : goal.returns
returns c =
    let x = c.args in
    let w = x.edge.now.work.now in
    let closes : c.close_all.result ≡ true = search rules in
    c.cleared_closed.ensures
    ∙ sym
    (ap (λ o. kinds_of (λ fault. option_map_or (closed_clears (program_of w) (plain_plans x.edge.now.plans.now) (statement_of w) w.action (cells_of x.row.now) fault) o true))
    (c.close_all.ensures.closed ∙ ap (λ b. if b then Some (matrices_for x.edge.now.plans.now c.close_all.new.out) else None) closes))

pub returns-then-not-close_all : goal.returns-then-not-close_all
returns-then-not-close_all c =
    let x = c.args in
    let w = x.edge.now.work.now in
    let closes : c.close_all.result ≡ false = search rules in
    c.all.ensures
    ∙ sym
    (ap (λ o. kinds_of (λ fault. option_map_or (closed_clears (program_of w) (plain_plans x.edge.now.plans.now) (statement_of w) w.action (cells_of x.row.now) fault) o true))
    (c.close_all.ensures.closed ∙ ap (λ b. if b then Some (matrices_for x.edge.now.plans.now c.close_all.new.out) else None) closes))
