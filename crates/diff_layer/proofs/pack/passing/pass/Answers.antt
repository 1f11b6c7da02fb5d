use Rattle.std.proofs.Common.{if◌then◌else◌, Some, None, sym, ap, subst, ◌∙◌}
use Rattle.edge_parts.specs.PartView.{plain_part}
use Rattle.interval_domain.specs.Rows.{cells_of}
use Rattle.cell_layer.specs.Kept.{latest_of}
use Rattle.diff_layer.specs.Closed.{AreClosedBy, IsClosedRow}
use Rattle.diff_layer.specs.Plans.{plain_plans, matrices_for}
use Rattle.diff_layer.specs.Passed.{program_in, known_before, known_behind}
use Rattle.diff_layer.proofs.Idle.{idle_closed}
use Rattle.diff_layer.proofs.pack.passing.pass.Goals as goal

pub returns-then-is_untouched-clause-closed : goal.returns-then-is_untouched-clause-closed
returns-then-is_untouched-clause-closed c wrote written =
    let x = c.args in
    let p = program_in x.passed.now in
    let so = c.if-is_untouched.true in
    idle_closed p (known_before x.passed.now) (known_behind x.passed.now) x.passed.now.moment.kept.common (latest_of x.passed.now.moment.kept) wrote (plain_part x.part) (c.is_untouched.ensures.idle so)
    (plain_plans x.plans.now) (matrices_for x.plans.now x.out.now)
    (subst (λ row. AreClosedBy p (cells_of row) (plain_plans x.plans.now) (matrices_for x.plans.now x.out.now)) (c.is_untouched.ensures.same so) c.requires.matrices.closed)
    ∙ sym (ap (λ b. if b then Some (matrices_for x.plans.now x.out.now) else None) so)

pub returns-then-is_untouched-clause-matrices : goal.returns-then-is_untouched-clause-matrices
returns-then-is_untouched-clause-matrices c so =
    let x = c.args in
    subst (λ row. IsClosedRow (program_in x.passed.now) (cells_of row) x.plans.now x.out.now) (c.is_untouched.ensures.same so) c.requires.matrices
