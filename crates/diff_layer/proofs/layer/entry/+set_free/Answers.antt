use Rattle.std.proofs.Common.{◌≡◌, ◌≤◌, ◌+◌, ◌-◌, length, take, drop, get_or, ap, subst, ◌∙◌, arith}
use Rattle.std.specs.List.{AllByRecursion}
use Rattle.diff_bounds.specs.PackRows.{width_of, words_of}
use Rattle.diff_layer.proofs.PackRows.{split_is}
use Rattle.diff_layer.proofs.layer.entry.+set_free.Goals as goal

pub set_free-requires : goal.set_free-requires
set_free-requires t c =
    let x = c.args in
    let split = split_is x.sizes.now 0 c.in-len1-up.len_at_least in
    let few = subst (AllByRecursion (λ n. n ≤ 8)) split c.requires.small in
    let width : length x.row.now ≡ words_of (get_or x.sizes.now 0 0) + width_of (take (length x.sizes.now - 1) (drop 1 x.sizes.now)) =
    c.requires.width ∙ ap width_of split in (
      omega arith,
      (few.1, omega (arith, width, c.words_of.ensures.value, c.split_at_mut-first.ensures.back_len)),
    )
