use Rattle.std.proofs.Common.{◌≡◌, ◌≤◌, ◌+◌, ◌++◌, ◌-◌, suc, length, take, drop, ap, sym, subst, ◌∙◌, arith}
use Rattle.std.specs.List.{AllByRecursion}
use Rattle.std.proofs.lemmas.Result.{on_ok_weaker}
use Rattle.diff_bounds.specs.PackRows.{width_of, words_of}
use Rattle.cert_text.specs.Bounds.{bounds_from, matrix_bounds}
use Rattle.cert_text.specs.MatrixClaims.{cells_in, sizes_of}
use Rattle.cert_text.proofs.Adding.{both_added}
use Rattle.cert_text.proofs.MatrixFilling.{sizes_split}
use Rattle.cert_text.proofs.bounds.+add_row.Goals as goal

pub words_of-requires : goal.words_of-requires
words_of-requires t c =
    let split = sizes_split c.args.packs.now c.first-item.result c.len-size.result c.in-len1-up.len_at_least c.first-item.is (c.len-size.ensures ∙ c.first-item.result.cells.ok.0) in
    (subst (AllByRecursion (λ n. n ≤ 8)) split c.requires.small).0

pub add_matrix-requires-clause-size : goal.add_matrix-requires-clause-size
add_matrix-requires-clause-size t c =
    let split = sizes_split c.args.packs.now c.first-item.result c.len-size.result c.in-len1-up.len_at_least c.first-item.is (c.len-size.ensures ∙ c.first-item.result.cells.ok.0) in
    (subst (AllByRecursion (λ n. n ≤ 8)) split c.requires.small).0

pub add_row-requires : goal.add_row-requires
add_row-requires t c =
    let ns = sizes_of (cells_in (take (length c.args.packs.now - 1) (drop 1 c.args.packs.now))) in
    let split = sizes_split c.args.packs.now c.first-item.result c.len-size.result c.in-len1-up.len_at_least c.first-item.is (c.len-size.ensures ∙ c.first-item.result.cells.ok.0) in
    let few = subst (AllByRecursion (λ n. n ≤ 8)) split c.requires.small in
    let width : length c.args.row.now ≡ words_of c.len-size.result + width_of ns = c.requires.width ∙ ap width_of split in (
      omega arith,
      (omega (arith, c.requires.few), (few.1, omega (arith, width, c.words_of.ensures.value, c.split_at.ensures.back_len))),
    )

pub returns-in_ok-add_matrix-in-len1-up : goal.returns-in_ok-add_matrix-in-len1-up
returns-in_ok-add_matrix-in-len1-up t c =
    let n = c.len-size.result in
    let pack = c.args.pack in
    let row = c.args.row.now in
    let ns = sizes_of (cells_in (take (length c.args.packs.now - 1) (drop 1 c.args.packs.now))) in
    let split = sizes_split c.args.packs.now c.first-item.result n c.in-len1-up.len_at_least c.first-item.is (c.len-size.ensures ∙ c.first-item.result.cells.ok.0) in
    let m = c.split_at.ensures.front ∙ ap (λ k. take k row) c.words_of.ensures.value in
    let others = c.split_at.ensures.back ∙ ap (λ k. drop k row) c.words_of.ensures.value in
    let next : pack + 1 ≡ suc pack = omega arith in
    on_ok_weaker c.add_row.result
    (both_added c.args.bounds.now.items c.add_matrix.new.bounds.items c.add_row.new.bounds.items
    (matrix_bounds pack n c.split_at.result.0.now) (bounds_from (pack + 1) ns c.split_at.result.1.now) (bounds_from pack (sizes_of (cells_in c.args.packs.now)) row)
    (c.in_ok-add_matrix-in-len1-up).ensures
    (ap (λ sizes. bounds_from pack sizes row) split ∙ sym (λ i. matrix_bounds pack n (m i) ++ bounds_from (next i) ns (others i))))
    c.add_row.ensures
