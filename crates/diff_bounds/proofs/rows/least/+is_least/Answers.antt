use Rattle.std.proofs.Common.{◌≤◌, ◌∙◌, ap, take, drop, rules}
use Rattle.diff_bounds.proofs.Apart.{all_first, all_behind, front_within, back_width}
use Rattle.diff_bounds.proofs.PackRows.{least_split}
use Rattle.diff_bounds.proofs.rows.least.+is_least.Goals as goal

pub words_of-requires : goal.words_of-requires
words_of-requires t c = all_first (λ n. n ≤ 8) c.args.sizes.now c.in-len1-up.len_at_least c.requires.small

pub split_at-requires : goal.split_at-requires
split_at-requires t c =
    front_within c.args.sizes.now c.args.thresholds.now c.args.row.now _ c.in-len1-up.len_at_least c.in-len1-up-thresholds.len_at_least c.requires.width c.words_of.ensures.value

pub is_least_matrix-requires-clause-size : goal.is_least_matrix-requires-clause-size
is_least_matrix-requires-clause-size t c = all_first (λ n. n ≤ 8) c.args.sizes.now c.in-len1-up.len_at_least c.requires.small

pub is_least_matrix-requires-clause-width : goal.is_least_matrix-requires-clause-width
is_least_matrix-requires-clause-width t c = c.split_at.ensures.front_len ∙ c.words_of.ensures.value

pub is_least-requires : goal.is_least-requires
is_least-requires t c =
    let some = c.in-len1-up.len_at_least in (
      search rules,
      (
        all_behind (λ n. n ≤ 8) c.args.sizes.now some c.requires.small,
        back_width c.args.sizes.now c.args.thresholds.now c.args.row.now _ some c.in-len1-up-thresholds.len_at_least c.requires.width
            (c.split_at.ensures.back ∙ ap (λ k. drop k c.args.row.now) c.words_of.ensures.value),
      ),
    )

pub returns-in-len1-up-thresholds : goal.returns-in-len1-up-thresholds
returns-in-len1-up-thresholds t c =
    least_split c.args.sizes.now c.args.thresholds.now c.args.row.now c.split_at.result.0.now c.split_at.result.1.now _ _
    c.in-len1-up.len_at_least c.in-len1-up-thresholds.len_at_least c.requires.width
    (c.split_at.ensures.front ∙ ap (λ k. take k c.args.row.now) c.words_of.ensures.value) (c.split_at.ensures.back ∙ ap (λ k. drop k c.args.row.now) c.words_of.ensures.value)
    c.is_least_matrix.ensures c.is_least.ensures
