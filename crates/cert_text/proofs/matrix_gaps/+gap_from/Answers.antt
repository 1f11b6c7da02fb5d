use Rattle.std.proofs.Common.{◌≡◌, ◌≤◌, ◌+◌, ◌-◌, suc, length, take, drop, ap, sym, subst, ◌∙◌, arith}
use Rattle.std.specs.List.{AllByRecursion}
use Rattle.diff_bounds.specs.PackRows.{width_of, words_of}
use Rattle.cert_text.specs.MatrixClaims.{cells_in, sizes_of}
use Rattle.cert_text.specs.MatrixGaps.{gaps_from, matrix_gaps}
use Rattle.cert_text.proofs.MatrixFilling.{sizes_split}
use Rattle.cert_text.proofs.MatrixSeeking.{first, first_some, first_none}
use Rattle.cert_text.proofs.matrix_gaps.+gap_from.Goals as goal

pub words_of-requires : goal.words_of-requires
words_of-requires t c =
    let split = sizes_split c.args.packs.now c.first-item.result c.len-size.result c.in-len1-up.len_at_least c.first-item.is (c.len-size.ensures ∙ c.first-item.result.cells.ok.0) in
    (subst (AllByRecursion (λ n. n ≤ 8)) split c.requires.small).0

pub words_of-requires-in-len1-up : goal.words_of-requires-in-len1-up
words_of-requires-in-len1-up t c =
    let split = sizes_split c.args.packs.now c.first-item.result c.len-size.result c.in-len1-up.len_at_least c.first-item.is (c.len-size.ensures ∙ c.first-item.result.cells.ok.0) in
    (subst (AllByRecursion (λ n. n ≤ 8)) split c.requires.small).0

pub matrix_gap-gap-requires-clause-size : goal.matrix_gap-gap-requires-clause-size
matrix_gap-gap-requires-clause-size t c =
    let split = sizes_split c.args.packs.now c.first-item.result c.len-size.result c.in-len1-up.len_at_least c.first-item.is (c.len-size.ensures ∙ c.first-item.result.cells.ok.0) in
    (subst (AllByRecursion (λ n. n ≤ 8)) split c.requires.small).0

pub gap_from-requires : goal.gap_from-requires
gap_from-requires t c =
    let ns = sizes_of (cells_in (take (length c.args.packs.now - 1) (drop 1 c.args.packs.now))) in
    let split = sizes_split c.args.packs.now c.first-item.result c.len-size.result c.in-len1-up.len_at_least c.first-item.is (c.len-size.ensures ∙ c.first-item.result.cells.ok.0) in
    let few = subst (AllByRecursion (λ n. n ≤ 8)) split c.requires.small in
    let reached : length c.args.reached.now ≡ words_of c.len-size.result + width_of ns = c.requires.reached ∙ ap width_of split in
    let claimed : length c.args.claimed.now ≡ words_of c.len-size.result + width_of ns = c.requires.claimed ∙ ap width_of split in (
      omega arith,
      (
        omega (arith, c.requires.few),
        (
          few.1,
          (
            omega (arith, reached, c.words_of.ensures.value, c.split_at.ensures.back_len),
            omega (arith, claimed, c.words_of-in-len1-up.ensures.value, c.split_at-in-len1-up.ensures.back_len),
          ),
        ),
      ),
    )

pub returns-then-is_some : goal.returns-then-is_some
returns-then-is_some t c =
    let n = c.len-size.result in
    let ns = sizes_of (cells_in (take (length c.args.packs.now - 1) (drop 1 c.args.packs.now))) in
    let split = sizes_split c.args.packs.now c.first-item.result n c.in-len1-up.len_at_least c.first-item.is (c.len-size.ensures ∙ c.first-item.result.cells.ok.0) in
    let m = c.split_at.ensures.front ∙ ap (λ k. take k c.args.reached.now) c.words_of.ensures.value in
    let most = c.split_at-in-len1-up.ensures.front ∙ ap (λ k. take k c.args.claimed.now) c.words_of-in-len1-up.ensures.value in
    first_some (matrix_gaps c.args.pack n (take (words_of n) c.args.reached.now) (take (words_of n) c.args.claimed.now))
    (gaps_from (suc c.args.pack) ns (drop (words_of n) c.args.reached.now) (drop (words_of n) c.args.claimed.now)) c.matrix_gap-gap.result
    (c.matrix_gap-gap.ensures ∙ (λ i. first (matrix_gaps c.args.pack n (m i) (most i)))) (sym c.is_some.ensures ∙ c.if-is_some.true)
    ∙ sym (ap (λ sizes. first (gaps_from c.args.pack sizes c.args.reached.now c.args.claimed.now)) split)

pub returns-else-is_some : goal.returns-else-is_some
returns-else-is_some t c =
    let n = c.len-size.result in
    let ns = sizes_of (cells_in (take (length c.args.packs.now - 1) (drop 1 c.args.packs.now))) in
    let split = sizes_split c.args.packs.now c.first-item.result n c.in-len1-up.len_at_least c.first-item.is (c.len-size.ensures ∙ c.first-item.result.cells.ok.0) in
    let m = c.split_at.ensures.front ∙ ap (λ k. take k c.args.reached.now) c.words_of.ensures.value in
    let most = c.split_at-in-len1-up.ensures.front ∙ ap (λ k. take k c.args.claimed.now) c.words_of-in-len1-up.ensures.value in
    let others = c.split_at.ensures.back ∙ ap (λ k. drop k c.args.reached.now) c.words_of.ensures.value in
    let mosts = c.split_at-in-len1-up.ensures.back ∙ ap (λ k. drop k c.args.claimed.now) c.words_of-in-len1-up.ensures.value in
    let next : c.args.pack + 1 ≡ suc c.args.pack = omega arith in
    first_none (matrix_gaps c.args.pack n (take (words_of n) c.args.reached.now) (take (words_of n) c.args.claimed.now))
    (gaps_from (suc c.args.pack) ns (drop (words_of n) c.args.reached.now) (drop (words_of n) c.args.claimed.now)) c.matrix_gap-gap.result _
    (c.matrix_gap-gap.ensures ∙ (λ i. first (matrix_gaps c.args.pack n (m i) (most i)))) (sym c.is_some.ensures ∙ c.if-is_some.false)
    (c.gap_from.ensures ∙ (λ i. first (gaps_from (next i) ns (others i) (mosts i))))
    ∙ sym (ap (λ sizes. first (gaps_from c.args.pack sizes c.args.reached.now c.args.claimed.now)) split)
