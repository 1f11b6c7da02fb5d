use Rattle.std.proofs.Common.{◌≤◌, ◌∙◌, take, drop, ap, rules}
use Rattle.diff_bounds.proofs.Apart.{all_first, all_behind, front_within, front_matrix, back_element, below_joined, told_rest, told_first}
use Rattle.diff_bounds.proofs.rows.order.+leq_rows.Goals as goal

pub words_of-requires : goal.words_of-requires
words_of-requires t c = all_first (λ n. n ≤ 8) c.args.sizes.now c.in-len1-up.len_at_least c.requires.small

pub split_at-requires : goal.split_at-requires
split_at-requires t c =
    front_within c.args.sizes.now c.args.thresholds.now c.args.a.now _ c.in-len1-up.len_at_least c.in-len1-up-thresholds.len_at_least c.requires.a.width c.words_of.ensures.value

pub words_of-requires-in-len1-up-thresholds : goal.words_of-requires-in-len1-up-thresholds
words_of-requires-in-len1-up-thresholds t c = all_first (λ n. n ≤ 8) c.args.sizes.now c.in-len1-up.len_at_least c.requires.small

pub split_at-requires-in-len1-up-thresholds : goal.split_at-requires-in-len1-up-thresholds
split_at-requires-in-len1-up-thresholds t c =
    front_within c.args.sizes.now c.args.thresholds.now c.args.b.now _ c.in-len1-up.len_at_least c.in-len1-up-thresholds.len_at_least c.requires.b.width c.words_of-in-len1-up-thresholds.ensures.value

pub leq-requires-clause-size : goal.leq-requires-clause-size
leq-requires-clause-size t c = all_first (λ n. n ≤ 8) c.args.sizes.now c.in-len1-up.len_at_least c.requires.small

pub leq-requires-clause-a : goal.leq-requires-clause-a
leq-requires-clause-a t c =
    front_matrix c.args.sizes.now c.args.thresholds.now c.args.a.now _ c.in-len1-up.len_at_least c.in-len1-up-thresholds.len_at_least c.requires.a
    (c.split_at.ensures.front ∙ ap (λ k. take k c.args.a.now) c.words_of.ensures.value)

pub leq-requires-clause-b : goal.leq-requires-clause-b
leq-requires-clause-b t c =
    front_matrix c.args.sizes.now c.args.thresholds.now c.args.b.now _ c.in-len1-up.len_at_least c.in-len1-up-thresholds.len_at_least c.requires.b
    (c.split_at-in-len1-up-thresholds.ensures.front ∙ ap (λ k. take k c.args.b.now) c.words_of-in-len1-up-thresholds.ensures.value)

pub leq_rows-requires : goal.leq_rows-requires
leq_rows-requires t c =
    let some = c.in-len1-up.len_at_least in
    let more = c.in-len1-up-thresholds.len_at_least in (
      search rules,
      (
        all_behind (λ n. n ≤ 8) c.args.sizes.now some c.requires.small,
        (
          back_element c.args.sizes.now c.args.thresholds.now c.args.a.now _ some more c.requires.a (c.split_at.ensures.back ∙ ap (λ k. drop k c.args.a.now) c.words_of.ensures.value),
          back_element c.args.sizes.now c.args.thresholds.now c.args.b.now _ some more c.requires.b (c.split_at-in-len1-up-thresholds.ensures.back ∙ ap (λ k. drop k c.args.b.now) c.words_of-in-len1-up-thresholds.ensures.value),
        ),
      ),
    )

pub returns-then-leq : goal.returns-then-leq
returns-then-leq t c =
    told_rest _ _ _ _ _ c.leq.ensures c.leq_rows.ensures
    (below_joined c.args.sizes.now c.args.thresholds.now c.args.a.now c.args.b.now _ _ _ _ c.in-len1-up.len_at_least c.in-len1-up-thresholds.len_at_least
    (c.split_at.ensures.front ∙ ap (λ k. take k c.args.a.now) c.words_of.ensures.value)
    (c.split_at-in-len1-up-thresholds.ensures.front ∙ ap (λ k. take k c.args.b.now) c.words_of-in-len1-up-thresholds.ensures.value)
    (c.split_at.ensures.back ∙ ap (λ k. drop k c.args.a.now) c.words_of.ensures.value)
    (c.split_at-in-len1-up-thresholds.ensures.back ∙ ap (λ k. drop k c.args.b.now) c.words_of-in-len1-up-thresholds.ensures.value))
    c.if-leq.true

pub returns-else-leq : goal.returns-else-leq
returns-else-leq t c =
    told_first _ _ _ _ c.leq.ensures
    (below_joined c.args.sizes.now c.args.thresholds.now c.args.a.now c.args.b.now _ _ _ _ c.in-len1-up.len_at_least c.in-len1-up-thresholds.len_at_least
    (c.split_at.ensures.front ∙ ap (λ k. take k c.args.a.now) c.words_of.ensures.value)
    (c.split_at-in-len1-up-thresholds.ensures.front ∙ ap (λ k. take k c.args.b.now) c.words_of-in-len1-up-thresholds.ensures.value)
    (c.split_at.ensures.back ∙ ap (λ k. drop k c.args.a.now) c.words_of.ensures.value)
    (c.split_at-in-len1-up-thresholds.ensures.back ∙ ap (λ k. drop k c.args.b.now) c.words_of-in-len1-up-thresholds.ensures.value))
    c.if-leq.false
