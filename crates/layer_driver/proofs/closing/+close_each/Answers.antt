use Rattle.std.proofs.Common.{◌≤◌, ◌-◌, length, take, drop, sym, subst, ◌∙◌, arith}
use Rattle.std.specs.List.{AllByRecursion}
use Rattle.dom_laws.specs.Lattice.{IsElement}
use Rattle.cert_text.specs.MatrixClaims.{cells_in, sizes_of}
use Rattle.cert_text.proofs.MatrixFilling.{sizes_split}
use Rattle.layer_driver.specs.Rows.{rows_for}
use Rattle.layer_driver.proofs.RowLemmas.{first_matrix, others_element}
use Rattle.layer_driver.proofs.closing.+close_each.Goals as goal

pub close_often-requires-clause-m : goal.close_often-requires-clause-m
close_often-requires-clause-m t c =
    let ns = sizes_of (cells_in (take (length c.args.packs.now - 1) (drop 1 c.args.packs.now))) in
    let split = sizes_split c.args.packs.now c.first-item.result c.len-size.result c.in-len1-up.len_at_least c.first-item.is (c.len-size.ensures ∙ c.first-item.result.cells.ok.0) in
    let is = subst (λ sizes. IsElement (rows_for sizes) c.args.row.now) split c.requires.row in
    first_matrix c.len-size.result ns c.args.row.now is c.words_of-width.result c.words_of-width.ensures.value _ c.split_at.ensures.front

pub close_often-requires-clause-width : goal.close_often-requires-clause-width
close_often-requires-clause-width t c = c.split_at_mut-own.ensures.front_len ∙ sym c.split_at.ensures.front_len

pub close_each-requires : goal.close_each-requires
close_each-requires t c =
    let ns = sizes_of (cells_in (take (length c.args.packs.now - 1) (drop 1 c.args.packs.now))) in
    let split = sizes_split c.args.packs.now c.first-item.result c.len-size.result c.in-len1-up.len_at_least c.first-item.is (c.len-size.ensures ∙ c.first-item.result.cells.ok.0) in
    let few = subst (AllByRecursion (λ n. n ≤ 8)) split c.requires.small in
    let is = subst (λ sizes. IsElement (rows_for sizes) c.args.row.now) split c.requires.row in
    let rest = others_element c.len-size.result ns c.args.row.now is c.words_of-width.result c.words_of-width.ensures.value _ c.split_at.ensures.back in
    let own = c.split_at_mut-own.ensures.back_len in
    let from = c.split_at.ensures.back_len in
    let same = c.requires.width in
    (omega arith, (few.1, (rest, omega (arith, own, from, same))))
