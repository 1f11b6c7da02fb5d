use Rattle.std.proofs.Common.{◌≤◌, ◌++◌, ◌-◌, length, take, drop, sym, subst, ◌∙◌, arith}
use Rattle.std.specs.List.{AllByRecursion}
use Rattle.dom_laws.specs.Lattice.{IsElement}
use Rattle.cert_text.specs.MatrixClaims.{cells_in, sizes_of}
use Rattle.cert_text.proofs.MatrixFilling.{sizes_split}
use Rattle.layer_driver.specs.Rows.{rows_for}
use Rattle.layer_driver.proofs.RowLemmas.{first_matrix, others_element, joined_element}
use Rattle.layer_driver.proofs.matrices.+lower.Goals as goal

pub lower_matrix-requires-clause-m : goal.lower_matrix-requires-clause-m
lower_matrix-requires-clause-m t c =
    let ns = sizes_of (cells_in (take (length c.args.packs.now - 1) (drop 1 c.args.packs.now))) in
    let split = sizes_split c.args.packs.now c.first-item.result c.len-size.result c.in-len1-up.len_at_least c.first-item.is (c.len-size.ensures ∙ c.first-item.result.cells.ok.0) in
    let is = subst (λ sizes. IsElement (rows_for sizes) c.args.row.now) split c.requires.row in
    first_matrix c.len-size.result ns c.args.row.now is c.words_of-width.result c.words_of-width.ensures.value _ c.split_at_mut-m.ensures.front

pub lower-requires : goal.lower-requires
lower-requires t c =
    let ns = sizes_of (cells_in (take (length c.args.packs.now - 1) (drop 1 c.args.packs.now))) in
    let split = sizes_split c.args.packs.now c.first-item.result c.len-size.result c.in-len1-up.len_at_least c.first-item.is (c.len-size.ensures ∙ c.first-item.result.cells.ok.0) in
    let few = subst (AllByRecursion (λ n. n ≤ 8)) split c.requires.small in
    let is = subst (λ sizes. IsElement (rows_for sizes) c.args.row.now) split c.requires.row in
    (omega arith, (few.1, others_element c.len-size.result ns c.args.row.now is c.words_of-width.result c.words_of-width.ensures.value _ c.split_at_mut-m.ensures.back))

pub returns-in-len1-up : goal.returns-in-len1-up
returns-in-len1-up t c =
    let ns = sizes_of (cells_in (take (length c.args.packs.now - 1) (drop 1 c.args.packs.now))) in
    let split = sizes_split c.args.packs.now c.first-item.result c.len-size.result c.in-len1-up.len_at_least c.first-item.is (c.len-size.ensures ∙ c.first-item.result.cells.ok.0) in
    subst (λ sizes. IsElement (rows_for sizes) (c.lower_matrix.new.m ++ c.lower.new.row)) (sym split)
    (joined_element c.len-size.result ns c.lower_matrix.new.m c.lower.new.row c.lower_matrix.ensures c.lower.ensures)
