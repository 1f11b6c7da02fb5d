use Rattle.std.proofs.Common.{◌≤◌, ◌∙◌, take, drop, ap, rules}
use Rattle.diff_bounds.proofs.Apart.{all_first, all_behind, front_within, front_matrix, back_element, join_joined}
use Rattle.diff_bounds.proofs.rows.joining.+join_rows.Goals as goal

pub words_of-requires : goal.words_of-requires
words_of-requires t c = all_first (λ n. n ≤ 8) c.args.sizes.now c.in-len1-up.len_at_least c.requires.small

pub split_at_mut-first-requires : goal.split_at_mut-first-requires
split_at_mut-first-requires t c =
    front_within c.args.sizes.now c.args.thresholds.now c.args.a.now _ c.in-len1-up.len_at_least c.in-len1-up-thresholds.len_at_least c.requires.a.width c.words_of.ensures.value

pub words_of-requires-in-len1-up-thresholds : goal.words_of-requires-in-len1-up-thresholds
words_of-requires-in-len1-up-thresholds t c = all_first (λ n. n ≤ 8) c.args.sizes.now c.in-len1-up.len_at_least c.requires.small

pub split_at-requires : goal.split_at-requires
split_at-requires t c =
    front_within c.args.sizes.now c.args.thresholds.now c.args.b.now _ c.in-len1-up.len_at_least c.in-len1-up-thresholds.len_at_least c.requires.b.width c.words_of-in-len1-up-thresholds.ensures.value

pub join-requires-clause-size : goal.join-requires-clause-size
join-requires-clause-size t c = all_first (λ n. n ≤ 8) c.args.sizes.now c.in-len1-up.len_at_least c.requires.small

pub join-requires-clause-a : goal.join-requires-clause-a
join-requires-clause-a t c =
    front_matrix c.args.sizes.now c.args.thresholds.now c.args.a.now _ c.in-len1-up.len_at_least c.in-len1-up-thresholds.len_at_least c.requires.a
    (c.split_at_mut-first.ensures.front ∙ ap (λ k. take k c.args.a.now) c.words_of.ensures.value)

pub join-requires-clause-b : goal.join-requires-clause-b
join-requires-clause-b t c =
    front_matrix c.args.sizes.now c.args.thresholds.now c.args.b.now _ c.in-len1-up.len_at_least c.in-len1-up-thresholds.len_at_least c.requires.b
    (c.split_at.ensures.front ∙ ap (λ k. take k c.args.b.now) c.words_of-in-len1-up-thresholds.ensures.value)

pub join_rows-requires : goal.join_rows-requires
join_rows-requires t c =
    let some = c.in-len1-up.len_at_least in
    let more = c.in-len1-up-thresholds.len_at_least in (
      search rules,
      (
        all_behind (λ n. n ≤ 8) c.args.sizes.now some c.requires.small,
        (
          back_element c.args.sizes.now c.args.thresholds.now c.args.a.now _ some more c.requires.a (c.split_at_mut-first.ensures.back ∙ ap (λ k. drop k c.args.a.now) c.words_of.ensures.value),
          back_element c.args.sizes.now c.args.thresholds.now c.args.b.now _ some more c.requires.b (c.split_at.ensures.back ∙ ap (λ k. drop k c.args.b.now) c.words_of-in-len1-up-thresholds.ensures.value),
        ),
      ),
    )

pub returns-in-len1-up-thresholds : goal.returns-in-len1-up-thresholds
returns-in-len1-up-thresholds t c =
    join_joined c.args.sizes.now c.args.thresholds.now c.args.a.now c.args.b.now _ _ _ _ _ _ c.in-len1-up.len_at_least c.in-len1-up-thresholds.len_at_least
    (c.split_at_mut-first.ensures.front ∙ ap (λ k. take k c.args.a.now) c.words_of.ensures.value)
    (c.split_at.ensures.front ∙ ap (λ k. take k c.args.b.now) c.words_of-in-len1-up-thresholds.ensures.value)
    (c.split_at_mut-first.ensures.back ∙ ap (λ k. drop k c.args.a.now) c.words_of.ensures.value)
    (c.split_at.ensures.back ∙ ap (λ k. drop k c.args.b.now) c.words_of-in-len1-up-thresholds.ensures.value)
    c.join.ensures.row c.join_rows.ensures
