use Rattle.std.proofs.Common.{◌≡◌, ◌≤◌, ◌+◌, ◌++◌, ◌-◌, suc, length, take, drop, ap, sym, subst, ◌∙◌, arith}
use Rattle.std.specs.List.{AllByRecursion}
use Rattle.diff_bounds.specs.PackRows.{row_of, width_of, words_of}
use Rattle.cert_text.specs.MatrixClaims.{cells_in, claimed_matrix, matrices_from, sizes_of}
use Rattle.cert_text.specs.Written.{AreFrom, IsBoundOf}
use Rattle.cert_text.proofs.MatrixFilling.{sizes_split}
use Rattle.cert_text.proofs.Sharing.{all_above, behind_are, own_are, rise_behind, shared}
use Rattle.cert_text.proofs.matrix_claims.+set_bounds.Goals as goal

pub words_of-requires : goal.words_of-requires
words_of-requires t c =
    let split = sizes_split c.args.packs.now c.first-item.result c.len-size.result c.in-len1-up.len_at_least c.first-item.is (c.len-size.ensures ∙ c.first-item.result.cells.ok.0) in
    (subst (AllByRecursion (λ n. n ≤ 8)) split c.requires.small).0

pub set_matrix-requires-clause-size : goal.set_matrix-requires-clause-size
set_matrix-requires-clause-size t c =
    let split = sizes_split c.args.packs.now c.first-item.result c.len-size.result c.in-len1-up.len_at_least c.first-item.is (c.len-size.ensures ∙ c.first-item.result.cells.ok.0) in
    (subst (AllByRecursion (λ n. n ≤ 8)) split c.requires.small).0

pub set_matrix-requires-clause-bounds : goal.set_matrix-requires-clause-bounds
set_matrix-requires-clause-bounds t c =
    let ns = sizes_of (cells_in (take (length c.args.packs.now - 1) (drop 1 c.args.packs.now))) in
    let split = sizes_split c.args.packs.now c.first-item.result c.len-size.result c.in-len1-up.len_at_least c.first-item.is (c.len-size.ensures ∙ c.first-item.result.cells.ok.0) in
    let are = subst (λ sizes. AreFrom c.args.pack sizes c.args.bounds.now) split c.requires.bounds in
    subst (AllByRecursion (IsBoundOf c.args.pack c.len-size.result)) (sym c.split_at.ensures.front)
    (own_are c.args.pack c.len-size.result ns c.count_of.result c.args.bounds.now are c.count_of.ensures.own)

pub set_bounds-requires : goal.set_bounds-requires
set_bounds-requires t c =
    let ns = sizes_of (cells_in (take (length c.args.packs.now - 1) (drop 1 c.args.packs.now))) in
    let split = sizes_split c.args.packs.now c.first-item.result c.len-size.result c.in-len1-up.len_at_least c.first-item.is (c.len-size.ensures ∙ c.first-item.result.cells.ok.0) in
    let few = subst (AllByRecursion (λ n. n ≤ 8)) split c.requires.small in
    let width : length c.args.row.now ≡ words_of c.len-size.result + width_of ns = c.requires.width ∙ ap width_of split in
    let next : suc c.args.pack ≡ c.args.pack + 1 = omega arith in
    let are = subst (λ sizes. AreFrom c.args.pack sizes c.args.bounds.now) split c.requires.bounds in
    let rise = rise_behind c.args.pack c.count_of.result c.args.bounds.now c.requires.bounds.rise c.count_of.ensures.own c.count_of.ensures.behind in
    let rest = behind_are c.args.pack c.len-size.result ns c.count_of.result c.args.bounds.now are rise in (
      omega arith,
      (
        few.1,
        (
          omega (arith, width, c.words_of.ensures.value, c.split_at_mut-m.ensures.back_len),
          (
            omega (arith, c.requires.few),
            subst (λ bs. AreFrom (c.args.pack + 1) ns bs) (sym c.split_at.ensures.back) (subst (λ q. AreFrom q ns (drop c.count_of.result c.args.bounds.now)) next rest),
          ),
        ),
      ),
    )

pub returns-in-len1-up : goal.returns-in-len1-up
returns-in-len1-up t c =
    let ns = sizes_of (cells_in (take (length c.args.packs.now - 1) (drop 1 c.args.packs.now))) in
    let split = sizes_split c.args.packs.now c.first-item.result c.len-size.result c.in-len1-up.len_at_least c.first-item.is (c.len-size.ensures ∙ c.first-item.result.cells.ok.0) in
    let next : c.args.pack + 1 ≡ suc c.args.pack = omega arith in
    let rise = rise_behind c.args.pack c.count_of.result c.args.bounds.now c.requires.bounds.rise c.count_of.ensures.own c.count_of.ensures.behind in
    let later = all_above (suc c.args.pack) (suc c.args.pack) (drop c.count_of.result c.args.bounds.now) (omega arith) rise in
    (λ i. c.set_matrix.ensures i ++ c.set_bounds.ensures i)
    ∙ (λ i. claimed_matrix (c.split_at.ensures.front i) c.args.pack c.len-size.result ++ row_of (matrices_from (next i) ns (c.split_at.ensures.back i)))
    ∙ sym (ap row_of (ap (λ sizes. matrices_from c.args.pack sizes c.args.bounds.now) split
    ∙ shared c.len-size.result ns c.args.pack c.count_of.result c.args.bounds.now c.count_of.ensures.own later))
