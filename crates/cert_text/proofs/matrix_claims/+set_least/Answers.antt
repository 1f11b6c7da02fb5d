use Rattle.std.proofs.Common.{◌≡◌, ◌≤◌, ◌+◌, ◌++◌, ◌-◌, length, take, drop, ap, sym, subst, ◌∙◌, arith}
use Rattle.std.specs.List.{AllByRecursion}
use Rattle.diff_bounds.specs.PackRows.{row_of, width_of, words_of}
use Rattle.cert_text.specs.MatrixClaims.{cells_in, least_matrices, sizes_of}
use Rattle.cert_text.proofs.MatrixFilling.{sizes_split}
use Rattle.cert_text.proofs.matrix_claims.+set_least.Goals as goal

pub words_of-requires : goal.words_of-requires
words_of-requires t c =
    let split = sizes_split c.args.packs.now c.first-item.result c.len-size.result c.in-len1-up.len_at_least c.first-item.is (c.len-size.ensures ∙ c.first-item.result.cells.ok.0) in
    (subst (AllByRecursion (λ n. n ≤ 8)) split c.requires.small).0

pub set_plain-requires-clause-size : goal.set_plain-requires-clause-size
set_plain-requires-clause-size t c =
    let split = sizes_split c.args.packs.now c.first-item.result c.len-size.result c.in-len1-up.len_at_least c.first-item.is (c.len-size.ensures ∙ c.first-item.result.cells.ok.0) in
    (subst (AllByRecursion (λ n. n ≤ 8)) split c.requires.small).0

pub split_at_mut-m-requires : goal.split_at_mut-m-requires
split_at_mut-m-requires t c =
    let ns = sizes_of (cells_in (take (length c.args.packs.now - 1) (drop 1 c.args.packs.now))) in
    let split = sizes_split c.args.packs.now c.first-item.result c.len-size.result c.in-len1-up.len_at_least c.first-item.is (c.len-size.ensures ∙ c.first-item.result.cells.ok.0) in
    let width : length c.args.row.now ≡ words_of c.len-size.result + width_of ns = c.requires.width ∙ ap width_of split in
    omega (arith, width, c.words_of.ensures.value)

pub set_least-requires : goal.set_least-requires
set_least-requires t c =
    let ns = sizes_of (cells_in (take (length c.args.packs.now - 1) (drop 1 c.args.packs.now))) in
    let split = sizes_split c.args.packs.now c.first-item.result c.len-size.result c.in-len1-up.len_at_least c.first-item.is (c.len-size.ensures ∙ c.first-item.result.cells.ok.0) in
    let few = subst (AllByRecursion (λ n. n ≤ 8)) split c.requires.small in
    let width : length c.args.row.now ≡ words_of c.len-size.result + width_of ns = c.requires.width ∙ ap width_of split in (
      omega arith,
      (few.1, omega (arith, width, c.words_of.ensures.value, c.split_at_mut-m.ensures.back_len)),
    )

pub returns-in-len1-up : goal.returns-in-len1-up
returns-in-len1-up t c =
    let split = sizes_split c.args.packs.now c.first-item.result c.len-size.result c.in-len1-up.len_at_least c.first-item.is (c.len-size.ensures ∙ c.first-item.result.cells.ok.0) in
    (λ i. c.set_plain.ensures i ++ c.set_least.ensures i) ∙ sym (ap (λ sizes. row_of (least_matrices sizes)) split)
