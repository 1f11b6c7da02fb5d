use Rattle.std.proofs.Common.{◌++◌, take, drop, ap, subst, ◌∙◌, arith}
use Rattle.cob_program.specs.ActView.{plain_program}
use Rattle.interval_domain.specs.Rows.{cells_of}
use Rattle.diff_layer.specs.Plans.{IsPlanOf, matrices_for}
use Rattle.diff_layer.proofs.PackRows.{named, its_matrix, other_rows, rows_together, closed_together, not_closed, closed_rows_together}
use Rattle.std.specs.List.{AllByRecursion}
use Rattle.diff_layer.proofs.pack.closing.+close_all.Goals as goal

pub returns-then-close-clause-closed : goal.returns-then-close-clause-closed
returns-then-close-clause-closed t c =
    let x = c.args in
    closed_together x.plans.now c.plan-item.result c.in-len1-up.len_at_least c.plan-item.is x.out.now c.split_at_mut-first.result.0.now c.split_at_mut-first.result.1.now
    c.requires.matrices (c.split_at_mut-first.ensures.front ∙ ap (λ k. take k x.out.now) c.words_for.ensures) (c.split_at_mut-first.ensures.back ∙ ap (λ k. drop k x.out.now) c.words_for.ensures)
    c.close.new.m c.close_all.new.out c.close.ensures.width (plain_program x.program.now) (cells_of x.row.now) c.close.result c.close_all.result c.close.ensures.value c.if-close.true
    c.close_all.ensures.closed

pub returns-then-close-clause-matrices : goal.returns-then-close-clause-matrices
returns-then-close-clause-matrices t c closes =
    let x = c.args in
    rows_together x.plans.now c.plan-item.result c.in-len1-up.len_at_least c.plan-item.is x.out.now c.split_at_mut-first.result.0.now c.split_at_mut-first.result.1.now
    c.requires.matrices (c.split_at_mut-first.ensures.front ∙ ap (λ k. take k x.out.now) c.words_for.ensures) (c.split_at_mut-first.ensures.back ∙ ap (λ k. drop k x.out.now) c.words_for.ensures)
    c.close.new.m c.close_all.new.out c.close.ensures.width (c.close.ensures.matrix c.if-close.true) (c.close_all.ensures.matrices closes)

pub returns-else-close-clause-closed : goal.returns-else-close-clause-closed
returns-else-close-clause-closed t c =
    let x = c.args in
    not_closed x.plans.now c.plan-item.result c.in-len1-up.len_at_least c.plan-item.is x.out.now c.split_at_mut-first.result.0.now c.split_at_mut-first.result.1.now
    c.requires.matrices (c.split_at_mut-first.ensures.front ∙ ap (λ k. take k x.out.now) c.words_for.ensures) (c.split_at_mut-first.ensures.back ∙ ap (λ k. drop k x.out.now) c.words_for.ensures)
    c.close.new.m c.split_at_mut-first.result.1.now c.close.ensures.width (plain_program x.program.now) (cells_of x.row.now) c.close.result
    (matrices_for x.plans.now (c.close.new.m ++ c.split_at_mut-first.result.1.now)) c.close.ensures.value c.if-close.false

pub returns-then-close-clause-stays : goal.returns-then-close-clause-stays
returns-then-close-clause-stays t c closes =
    let x = c.args in
    closed_rows_together x.plans.now c.plan-item.result c.in-len1-up.len_at_least c.plan-item.is x.out.now c.split_at_mut-first.result.0.now c.split_at_mut-first.result.1.now
    c.requires.matrices (c.split_at_mut-first.ensures.front ∙ ap (λ k. take k x.out.now) c.words_for.ensures) (c.split_at_mut-first.ensures.back ∙ ap (λ k. drop k x.out.now) c.words_for.ensures)
    c.close.new.m c.close_all.new.out c.close.ensures.width (plain_program x.program.now) (cells_of x.row.now) (c.close.ensures.matrix c.if-close.true) (c.close.ensures.stays c.if-close.true)
    (c.close_all.ensures.stays closes)

pub close-requires-clause-plan : goal.close-requires-clause-plan
close-requires-clause-plan t c =
    let x = c.args in
    let plans = subst (AllByRecursion (IsPlanOf (plain_program x.program.now))) (named x.plans.now c.plan-item.result c.in-len1-up.len_at_least c.plan-item.is) c.requires.plans in
    plans.0

pub close-requires-clause-matrix : goal.close-requires-clause-matrix
close-requires-clause-matrix t c =
    let x = c.args in
    its_matrix x.plans.now c.plan-item.result c.in-len1-up.len_at_least c.plan-item.is x.out.now c.split_at_mut-first.result.0.now c.split_at_mut-first.result.1.now
    c.requires.matrices (c.split_at_mut-first.ensures.front ∙ ap (λ k. take k x.out.now) c.words_for.ensures) (c.split_at_mut-first.ensures.back ∙ ap (λ k. drop k x.out.now) c.words_for.ensures)

pub close_all-requires : goal.close_all-requires
close_all-requires t c =
    let x = c.args in
    let plans = subst (AllByRecursion (IsPlanOf (plain_program x.program.now))) (named x.plans.now c.plan-item.result c.in-len1-up.len_at_least c.plan-item.is) c.requires.plans in
    let rest =
    other_rows x.plans.now c.plan-item.result c.in-len1-up.len_at_least c.plan-item.is x.out.now c.split_at_mut-first.result.0.now c.split_at_mut-first.result.1.now
    c.requires.matrices (c.split_at_mut-first.ensures.front ∙ ap (λ k. take k x.out.now) c.words_for.ensures) (c.split_at_mut-first.ensures.back ∙ ap (λ k. drop k x.out.now) c.words_for.ensures) in
    (omega arith, (c.requires.row, (c.requires.fits, (plans.1, rest))))

pub returns-else-close-clause-matrices : goal.returns-else-close-clause-matrices
returns-else-close-clause-matrices t c closes = absurd (cc (closes, c.if-close.false))

pub returns-else-close-clause-stays : goal.returns-else-close-clause-stays
returns-else-close-clause-stays t c closes = absurd (cc (closes, c.if-close.false))
