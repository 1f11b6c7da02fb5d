use Rattle.std.proofs.Common.{◌++◌, take, drop, ap, subst, ◌∙◌, arith}
use Rattle.std.specs.List.{AllByRecursion}
use Rattle.edge_parts.specs.PartView.{plain_part}
use Rattle.cell_layer.specs.Kept.{latest_of}
use Rattle.diff_layer.specs.Parts.{plan_changed}
use Rattle.diff_layer.specs.Plans.{IsPlanOf, matrices_for}
use Rattle.diff_layer.specs.Passed.{program_in, known_before, known_behind}
use Rattle.diff_layer.proofs.PackRows.{named, its_matrix, closed_matrix, closed_others, closed_rows_together, passed_together, not_passed}
use Rattle.diff_layer.proofs.pack.passing.+pass_packs.Goals as goal

pub pass_pack-requires-clause-matrix : goal.pass_pack-requires-clause-matrix
pass_pack-requires-clause-matrix t c =
    let x = c.args in
    its_matrix x.plans.now c.plan-item.result c.in-len1-up.len_at_least c.plan-item.is x.out.now c.split_at_mut-first.result.0.now c.split_at_mut-first.result.1.now
    c.requires.matrices.matrices (c.split_at_mut-first.ensures.front ∙ ap (λ k. take k x.out.now) c.words_for.ensures) (c.split_at_mut-first.ensures.back ∙ ap (λ k. drop k x.out.now) c.words_for.ensures)

pub pass_pack-requires-clause-closed : goal.pass_pack-requires-clause-closed
pass_pack-requires-clause-closed t c =
    let x = c.args in
    closed_matrix x.plans.now c.plan-item.result c.in-len1-up.len_at_least c.plan-item.is x.out.now c.split_at_mut-first.result.0.now c.split_at_mut-first.result.1.now
    c.requires.matrices.matrices (c.split_at_mut-first.ensures.front ∙ ap (λ k. take k x.out.now) c.words_for.ensures) (c.split_at_mut-first.ensures.back ∙ ap (λ k. drop k x.out.now) c.words_for.ensures)
    (program_in x.passed.now) (known_before x.passed.now) c.requires.matrices.closed

pub pass_packs-requires : goal.pass_packs-requires
pass_packs-requires t c =
    let x = c.args in
    let p = program_in x.passed.now in
    let some = c.in-len1-up.len_at_least in
    let plans = subst (AllByRecursion (IsPlanOf p)) (named x.plans.now c.plan-item.result some c.plan-item.is) c.requires.plans in
    let rest =
    closed_others x.plans.now c.plan-item.result some c.plan-item.is x.out.now c.split_at_mut-first.result.0.now c.split_at_mut-first.result.1.now
    c.requires.matrices.matrices (c.split_at_mut-first.ensures.front ∙ ap (λ k. take k x.out.now) c.words_for.ensures) (c.split_at_mut-first.ensures.back ∙ ap (λ k. drop k x.out.now) c.words_for.ensures)
    p (known_before x.passed.now) c.requires.matrices.closed in (
      omega arith,
      (plans.1, (c.requires.can, rest)),
    )

pub returns-then-pass_pack-clause-closed : goal.returns-then-pass_pack-clause-closed
returns-then-pass_pack-clause-closed t c wrote written =
    let x = c.args in
    let p = program_in x.passed.now in
    passed_together x.plans.now c.plan-item.result c.in-len1-up.len_at_least c.plan-item.is x.out.now c.split_at_mut-first.result.0.now c.split_at_mut-first.result.1.now
    c.requires.matrices.matrices (c.split_at_mut-first.ensures.front ∙ ap (λ k. take k x.out.now) c.words_for.ensures) (c.split_at_mut-first.ensures.back ∙ ap (λ k. drop k x.out.now) c.words_for.ensures)
    c.pass_pack.new.m c.pass_packs.new.out c.pass_pack.ensures.width p (known_behind x.passed.now)
    (plan_changed p (known_before x.passed.now) x.passed.now.moment.kept.common (latest_of x.passed.now.moment.kept) wrote (plain_part x.part)) c.pass_pack.result c.pass_packs.result
    (c.pass_pack.ensures.value wrote written) c.if-pass_pack.true (c.pass_packs.ensures.closed wrote written)

pub returns-then-pass_pack-clause-matrices : goal.returns-then-pass_pack-clause-matrices
returns-then-pass_pack-clause-matrices t c closes =
    let x = c.args in
    closed_rows_together x.plans.now c.plan-item.result c.in-len1-up.len_at_least c.plan-item.is x.out.now c.split_at_mut-first.result.0.now c.split_at_mut-first.result.1.now
    c.requires.matrices.matrices (c.split_at_mut-first.ensures.front ∙ ap (λ k. take k x.out.now) c.words_for.ensures) (c.split_at_mut-first.ensures.back ∙ ap (λ k. drop k x.out.now) c.words_for.ensures)
    c.pass_pack.new.m c.pass_packs.new.out c.pass_pack.ensures.width (program_in x.passed.now) (known_behind x.passed.now) (c.pass_pack.ensures.matrix c.if-pass_pack.true)
    (c.pass_pack.ensures.stays c.if-pass_pack.true) (c.pass_packs.ensures.matrices closes)

pub returns-else-pass_pack-clause-closed : goal.returns-else-pass_pack-clause-closed
returns-else-pass_pack-clause-closed t c wrote written =
    let x = c.args in
    let p = program_in x.passed.now in
    not_passed x.plans.now c.plan-item.result c.in-len1-up.len_at_least c.plan-item.is x.out.now c.split_at_mut-first.result.0.now c.split_at_mut-first.result.1.now
    c.requires.matrices.matrices (c.split_at_mut-first.ensures.front ∙ ap (λ k. take k x.out.now) c.words_for.ensures) (c.split_at_mut-first.ensures.back ∙ ap (λ k. drop k x.out.now) c.words_for.ensures)
    c.pass_pack.new.m c.split_at_mut-first.result.1.now c.pass_pack.ensures.width p (known_behind x.passed.now)
    (plan_changed p (known_before x.passed.now) x.passed.now.moment.kept.common (latest_of x.passed.now.moment.kept) wrote (plain_part x.part)) c.pass_pack.result
    (matrices_for x.plans.now (c.pass_pack.new.m ++ c.split_at_mut-first.result.1.now)) (c.pass_pack.ensures.value wrote written) c.if-pass_pack.false

pub pass_pack-requires-clause-plan : goal.pass_pack-requires-clause-plan
pass_pack-requires-clause-plan t c =
    let x = c.args in
    let plans = subst (AllByRecursion (IsPlanOf (program_in x.passed.now))) (named x.plans.now c.plan-item.result c.in-len1-up.len_at_least c.plan-item.is) c.requires.plans in
    plans.0

pub returns-else-pass_pack-clause-matrices : goal.returns-else-pass_pack-clause-matrices
returns-else-pass_pack-clause-matrices t c closes = absurd (cc (closes, c.if-pass_pack.false))
