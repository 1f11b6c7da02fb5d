use Rattle.std.proofs.Common.{◌≤◌, ◌∙◌, take, drop, ap, rules}
use Rattle.diff_bounds.specs.Widening.{AreThresholds}
use Rattle.diff_bounds.proofs.Apart.{all_first, all_behind, list_first, lists_behind, front_within, front_matrix, back_element, widen_joined}
use Rattle.diff_bounds.proofs.rows.widening.+widen_each.Goals as goal

pub words_of-requires : goal.words_of-requires
words_of-requires t c = all_first (λ n. n ≤ 8) c.args.sizes.now c.in-len1-up.len_at_least c.requires.small

pub split_at_mut-first-requires : goal.split_at_mut-first-requires
split_at_mut-first-requires t c =
    front_within c.args.sizes.now c.args.thresholds.now c.args.a.now _ c.in-len1-up.len_at_least c.in-len1-up-thresholds.len_at_least c.requires.a.width c.words_of.ensures.value

pub words_of-requires-in-len1-up-thresholds : goal.words_of-requires-in-len1-up-thresholds
words_of-requires-in-len1-up-thresholds t c = all_first (λ n. n ≤ 8) c.args.sizes.now c.in-len1-up.len_at_least c.requires.small

pub split_at-requires : goal.split_at-requires
split_at-requires t c =
    front_within c.args.sizes.now c.args.thresholds.now c.args.b.now _ c.in-len1-up.len_at_least c.in-len1-up-thresholds.len_at_least c.requires.b.width c.words_of-in-len1-up-thresholds.ensures.value

pub widen-requires-clause-size : goal.widen-requires-clause-size
widen-requires-clause-size t c = all_first (λ n. n ≤ 8) c.args.sizes.now c.in-len1-up.len_at_least c.requires.small

pub widen-requires-clause-a : goal.widen-requires-clause-a
widen-requires-clause-a t c =
    front_matrix c.args.sizes.now c.args.thresholds.now c.args.a.now _ c.in-len1-up.len_at_least c.in-len1-up-thresholds.len_at_least c.requires.a
    (c.split_at_mut-first.ensures.front ∙ ap (λ k. take k c.args.a.now) c.words_of.ensures.value)

pub widen-requires-clause-b : goal.widen-requires-clause-b
widen-requires-clause-b t c =
    front_matrix c.args.sizes.now c.args.thresholds.now c.args.b.now _ c.in-len1-up.len_at_least c.in-len1-up-thresholds.len_at_least c.requires.b
    (c.split_at.ensures.front ∙ ap (λ k. take k c.args.b.now) c.words_of-in-len1-up-thresholds.ensures.value)

pub widen-requires-clause-thresholds : goal.widen-requires-clause-thresholds
widen-requires-clause-thresholds t c =
    list_first AreThresholds c.args.thresholds.now c.list-item.result _ c.in-len1-up-thresholds.len_at_least c.list-item.is c.as_slice.ensures.value c.requires.thresholds

pub widen_each-requires : goal.widen_each-requires
widen_each-requires t c =
    let some = c.in-len1-up.len_at_least in
    let more = c.in-len1-up-thresholds.len_at_least in (
      search rules,
      (
        all_behind (λ n. n ≤ 8) c.args.sizes.now some c.requires.small,
        (
          lists_behind AreThresholds c.args.thresholds.now more c.requires.thresholds,
          (
            back_element c.args.sizes.now c.args.thresholds.now c.args.a.now _ some more c.requires.a (c.split_at_mut-first.ensures.back ∙ ap (λ k. drop k c.args.a.now) c.words_of.ensures.value),
            back_element c.args.sizes.now c.args.thresholds.now c.args.b.now _ some more c.requires.b (c.split_at.ensures.back ∙ ap (λ k. drop k c.args.b.now) c.words_of-in-len1-up-thresholds.ensures.value),
          ),
        ),
      ),
    )

pub returns-in-len1-up-thresholds : goal.returns-in-len1-up-thresholds
returns-in-len1-up-thresholds t c =
    widen_joined c.args.sizes.now c.args.thresholds.now c.list-item.result _ c.args.a.now c.args.b.now _ _ _ _ _ _ c.in-len1-up.len_at_least c.in-len1-up-thresholds.len_at_least
    c.list-item.is c.as_slice.ensures.value
    (c.split_at_mut-first.ensures.front ∙ ap (λ k. take k c.args.a.now) c.words_of.ensures.value)
    (c.split_at.ensures.front ∙ ap (λ k. take k c.args.b.now) c.words_of-in-len1-up-thresholds.ensures.value)
    (c.split_at_mut-first.ensures.back ∙ ap (λ k. drop k c.args.a.now) c.words_of.ensures.value)
    (c.split_at.ensures.back ∙ ap (λ k. drop k c.args.b.now) c.words_of-in-len1-up-thresholds.ensures.value)
    c.widen.ensures.row c.widen_each.ensures
