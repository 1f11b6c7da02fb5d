use Rattle.std.proofs.Common.{◌≤◌, length, get_or, rules, arith}
use Rattle.diff_bounds.proofs.Apart.{all_first, all_behind, behind_length, item_first, few_words, height_joined}
use Rattle.diff_bounds.proofs.rows.sizes.+height_beside.Goals as goal

pub overflow_mul-result : goal.overflow_mul-result
overflow_mul-result t c =
    let small = all_first (λ n. n ≤ 8) c.args.sizes.now c.in-len1-up.len_at_least c.requires.small in
    record { fits = omega (arith, few_words (get_or c.args.sizes.now 0 0) 0 small (omega arith)) }

pub overflow_mul-result-in-len1-up-thresholds : goal.overflow_mul-result-in-len1-up-thresholds
overflow_mul-result-in-len1-up-thresholds t c =
    let small = all_first (λ n. n ≤ 8) c.args.sizes.now c.in-len1-up.len_at_least c.requires.small in
    let few = item_first (λ list. length list.items ≤ 2048) c.args.thresholds.now c.list-item.result c.in-len1-up-thresholds.len_at_least c.list-item.is c.requires.lists in
    record { fits = omega (arith, few_words (get_or c.args.sizes.now 0 0) (length c.as_slice.result.now) small (rw c.as_slice.ensures.value few)) }

pub height_beside-requires : goal.height_beside-requires
height_beside-requires t c =
    let some = c.in-len1-up.len_at_least in (
      search rules,
      (
        omega (arith, c.requires.few, behind_length c.args.sizes.now some),
        (
          all_behind (λ n. n ≤ 8) c.args.sizes.now some c.requires.small,
          all_behind (λ list. length list.items ≤ 2048) c.args.thresholds.now c.in-len1-up-thresholds.len_at_least c.requires.lists,
        ),
      ),
    )

pub overflow_add-result-in-len1-up-thresholds-2 : goal.overflow_add-result-in-len1-up-thresholds-2
overflow_add-result-in-len1-up-thresholds-2 t c =
    let some = c.in-len1-up.len_at_least in
    let small = all_first (λ n. n ≤ 8) c.args.sizes.now some c.requires.small in
    let few = item_first (λ list. length list.items ≤ 2048) c.args.thresholds.now c.list-item.result c.in-len1-up-thresholds.len_at_least c.list-item.is c.requires.lists in
    let first = few_words (get_or c.args.sizes.now 0 0) (length c.as_slice.result.now) small (rw c.as_slice.ensures.value few) in
    record { fits = omega (arith, first, c.height_beside.ensures.within, c.requires.few, behind_length c.args.sizes.now some) }

pub returns-in-len1-up-thresholds-clause-value : goal.returns-in-len1-up-thresholds-clause-value
returns-in-len1-up-thresholds-clause-value t c =
    height_joined c.args.sizes.now c.args.thresholds.now c.list-item.result c.as_slice.result.now c.height_beside.result c.in-len1-up.len_at_least c.in-len1-up-thresholds.len_at_least
    c.list-item.is c.as_slice.ensures.value c.height_beside.ensures.value

pub returns-in-len1-up-thresholds-clause-within : goal.returns-in-len1-up-thresholds-clause-within
returns-in-len1-up-thresholds-clause-within t c =
    let some = c.in-len1-up.len_at_least in
    let small = all_first (λ n. n ≤ 8) c.args.sizes.now some c.requires.small in
    let few = item_first (λ list. length list.items ≤ 2048) c.args.thresholds.now c.list-item.result c.in-len1-up-thresholds.len_at_least c.list-item.is c.requires.lists in
    let first = few_words (get_or c.args.sizes.now 0 0) (length c.as_slice.result.now) small (rw c.as_slice.ensures.value few) in
    omega (arith, first, c.height_beside.ensures.within, behind_length c.args.sizes.now some)
