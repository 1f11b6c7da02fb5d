use Rattle.std.proofs.Common.{take, drop, ap, subst, ◌∙◌, arith}
use Rattle.std.specs.List.{AllByRecursion}
use Rattle.edge_parts.specs.PartView.{plain_divisor}
use Rattle.diff_layer.specs.Clears.{divisor_apart}
use Rattle.diff_layer.specs.Plans.{IsPlanOf}
use Rattle.diff_layer.specs.Views.{program_of, known_in}
use Rattle.diff_layer.proofs.PackRows.{named, its_matrix, other_rows, shown_first, shown_later}
use Rattle.diff_layer.proofs.pack.faults.+is_apart_in_some.Goals as goal

pub returns-then-is_apart_in : goal.returns-then-is_apart_in
returns-then-is_apart_in t c =
    let x = c.args in
    shown_first x.plans.now c.plan-item.result c.in-len1-up.len_at_least c.plan-item.is x.out.now c.split_at.result.0.now c.split_at.result.1.now
    c.requires.matrices (c.split_at.ensures.front ∙ ap (λ k. take k x.out.now) c.words_for.ensures) (c.split_at.ensures.back ∙ ap (λ k. drop k x.out.now) c.words_for.ensures)
    (divisor_apart (program_of x.items.now) (known_in x.items.now) (plain_divisor x.divisor)) c.is_apart_in.result c.is_apart_in.ensures c.if-is_apart_in.true

pub returns-else-is_apart_in : goal.returns-else-is_apart_in
returns-else-is_apart_in t c =
    let x = c.args in
    shown_later x.plans.now c.plan-item.result c.in-len1-up.len_at_least c.plan-item.is x.out.now c.split_at.result.0.now c.split_at.result.1.now
    c.requires.matrices (c.split_at.ensures.front ∙ ap (λ k. take k x.out.now) c.words_for.ensures) (c.split_at.ensures.back ∙ ap (λ k. drop k x.out.now) c.words_for.ensures)
    (divisor_apart (program_of x.items.now) (known_in x.items.now) (plain_divisor x.divisor)) c.is_apart_in.result c.is_apart_in_some.result c.is_apart_in.ensures
    c.if-is_apart_in.false c.is_apart_in_some.ensures

pub is_apart_in-requires-clause-plan : goal.is_apart_in-requires-clause-plan
is_apart_in-requires-clause-plan t c =
    let x = c.args in
    let plans = subst (AllByRecursion (IsPlanOf (program_of x.items.now))) (named x.plans.now c.plan-item.result c.in-len1-up.len_at_least c.plan-item.is) c.requires.plans in
    plans.0

pub is_apart_in-requires-clause-matrix : goal.is_apart_in-requires-clause-matrix
is_apart_in-requires-clause-matrix t c =
    let x = c.args in
    its_matrix x.plans.now c.plan-item.result c.in-len1-up.len_at_least c.plan-item.is x.out.now c.split_at.result.0.now c.split_at.result.1.now
    c.requires.matrices (c.split_at.ensures.front ∙ ap (λ k. take k x.out.now) c.words_for.ensures) (c.split_at.ensures.back ∙ ap (λ k. drop k x.out.now) c.words_for.ensures)

pub is_apart_in_some-requires : goal.is_apart_in_some-requires
is_apart_in_some-requires t c =
    let x = c.args in
    let plans = subst (AllByRecursion (IsPlanOf (program_of x.items.now))) (named x.plans.now c.plan-item.result c.in-len1-up.len_at_least c.plan-item.is) c.requires.plans in
    let rest =
    other_rows x.plans.now c.plan-item.result c.in-len1-up.len_at_least c.plan-item.is x.out.now c.split_at.result.0.now c.split_at.result.1.now
    c.requires.matrices (c.split_at.ensures.front ∙ ap (λ k. take k x.out.now) c.words_for.ensures) (c.split_at.ensures.back ∙ ap (λ k. drop k x.out.now) c.words_for.ensures) in
    (omega arith, (c.requires.fits, (plans.1, (c.requires.small, rest))))
