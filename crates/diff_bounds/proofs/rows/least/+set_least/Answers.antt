use Rattle.std.proofs.Common.{◌≤◌, ◌∙◌, drop, ap, rules}
use Rattle.diff_bounds.proofs.Apart.{all_first, all_behind, front_within, back_width, least_joined}
use Rattle.diff_bounds.proofs.rows.least.+set_least.Goals as goal

pub words_of-requires : goal.words_of-requires
words_of-requires t c = all_first (λ n. n ≤ 8) c.args.sizes.now c.in-len1-up.len_at_least c.requires.small

pub split_at_mut-first-requires : goal.split_at_mut-first-requires
split_at_mut-first-requires t c =
    front_within c.args.sizes.now c.args.thresholds.now c.args.row.now _ c.in-len1-up.len_at_least c.in-len1-up-thresholds.len_at_least c.requires.width c.words_of.ensures.value

pub set_least_matrix-requires-clause-size : goal.set_least_matrix-requires-clause-size
set_least_matrix-requires-clause-size t c = all_first (λ n. n ≤ 8) c.args.sizes.now c.in-len1-up.len_at_least c.requires.small

pub set_least_matrix-requires-clause-width : goal.set_least_matrix-requires-clause-width
set_least_matrix-requires-clause-width t c = c.split_at_mut-first.ensures.front_len ∙ c.words_of.ensures.value

pub set_least-requires : goal.set_least-requires
set_least-requires t c =
    let some = c.in-len1-up.len_at_least in (
      search rules,
      (
        all_behind (λ n. n ≤ 8) c.args.sizes.now some c.requires.small,
        back_width c.args.sizes.now c.args.thresholds.now c.args.row.now _ some c.in-len1-up-thresholds.len_at_least c.requires.width
            (c.split_at_mut-first.ensures.back ∙ ap (λ k. drop k c.args.row.now) c.words_of.ensures.value),
      ),
    )

pub returns-in-len1-up-thresholds : goal.returns-in-len1-up-thresholds
returns-in-len1-up-thresholds t c =
    least_joined c.args.sizes.now c.args.thresholds.now _ _ c.in-len1-up.len_at_least c.in-len1-up-thresholds.len_at_least c.set_least_matrix.ensures c.set_least.ensures
