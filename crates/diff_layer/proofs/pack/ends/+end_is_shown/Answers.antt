use Rattle.std.proofs.Common.{take, drop, ap, subst, ◌∙◌, arith}
use Rattle.std.specs.List.{AllByRecursion}
use Rattle.edge_parts.specs.PartView.{plain_part}
use Rattle.diff_layer.specs.Ends.{shows_end}
use Rattle.diff_layer.specs.Plans.{IsPlanOf}
use Rattle.diff_layer.specs.Views.{program_of, known_in}
use Rattle.diff_layer.proofs.PackRows.{named, its_matrix, other_rows, shown_first, shown_later}
use Rattle.diff_layer.proofs.pack.ends.+end_is_shown.Goals as goal

pub returns-then-pack_shows : goal.returns-then-pack_shows
returns-then-pack_shows t c wrote written =
    let x = c.args in
    shown_first x.plans.now c.plan-item.result c.in-len1-up.len_at_least c.plan-item.is x.out.now c.split_at.result.0.now c.split_at.result.1.now
    c.requires.matrices (c.split_at.ensures.front ∙ ap (λ k. take k x.out.now) c.words_for.ensures) (c.split_at.ensures.back ∙ ap (λ k. drop k x.out.now) c.words_for.ensures)
    (shows_end (program_of x.moment.now.items) (known_in x.moment.now.items) x.moment.now.kept.common wrote (plain_part x.part) x.slot.mode x.slot.receiver x.low) c.pack_shows.result
    (c.pack_shows.ensures wrote written) c.if-pack_shows.true

pub returns-else-pack_shows : goal.returns-else-pack_shows
returns-else-pack_shows t c wrote written =
    let x = c.args in
    shown_later x.plans.now c.plan-item.result c.in-len1-up.len_at_least c.plan-item.is x.out.now c.split_at.result.0.now c.split_at.result.1.now
    c.requires.matrices (c.split_at.ensures.front ∙ ap (λ k. take k x.out.now) c.words_for.ensures) (c.split_at.ensures.back ∙ ap (λ k. drop k x.out.now) c.words_for.ensures)
    (shows_end (program_of x.moment.now.items) (known_in x.moment.now.items) x.moment.now.kept.common wrote (plain_part x.part) x.slot.mode x.slot.receiver x.low) c.pack_shows.result c.end_is_shown.result
    (c.pack_shows.ensures wrote written) c.if-pack_shows.false (c.end_is_shown.ensures wrote written)

pub pack_shows-requires-clause-plan : goal.pack_shows-requires-clause-plan
pack_shows-requires-clause-plan t c =
    let x = c.args in
    let plans = subst (AllByRecursion (IsPlanOf (program_of x.moment.now.items))) (named x.plans.now c.plan-item.result c.in-len1-up.len_at_least c.plan-item.is) c.requires.plans in
    plans.0

pub pack_shows-requires-clause-matrix : goal.pack_shows-requires-clause-matrix
pack_shows-requires-clause-matrix t c =
    let x = c.args in
    its_matrix x.plans.now c.plan-item.result c.in-len1-up.len_at_least c.plan-item.is x.out.now c.split_at.result.0.now c.split_at.result.1.now
    c.requires.matrices (c.split_at.ensures.front ∙ ap (λ k. take k x.out.now) c.words_for.ensures) (c.split_at.ensures.back ∙ ap (λ k. drop k x.out.now) c.words_for.ensures)

pub end_is_shown-requires : goal.end_is_shown-requires
end_is_shown-requires t c =
    let x = c.args in
    let plans = subst (AllByRecursion (IsPlanOf (program_of x.moment.now.items))) (named x.plans.now c.plan-item.result c.in-len1-up.len_at_least c.plan-item.is) c.requires.plans in
    let rest =
    other_rows x.plans.now c.plan-item.result c.in-len1-up.len_at_least c.plan-item.is x.out.now c.split_at.result.0.now c.split_at.result.1.now
    c.requires.matrices (c.split_at.ensures.front ∙ ap (λ k. take k x.out.now) c.words_for.ensures) (c.split_at.ensures.back ∙ ap (λ k. drop k x.out.now) c.words_for.ensures) in
    (omega arith, (plans.1, (c.requires.can, (rest, (c.requires.digits, c.requires.scale)))))
