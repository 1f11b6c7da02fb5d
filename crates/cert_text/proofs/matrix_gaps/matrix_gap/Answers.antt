use Rattle.std.proofs.Common.{get_or, pos, ap, sym, ◌∙◌, rules, arith}
use Rattle.std.specs.Int.{w128}
use Rattle.std.proofs.lemmas.Int.{to_z-of_z}
use Rattle.diff_bounds.specs.PackRows.{words_of}
use Rattle.cert_text.proofs.MatrixSeeking.{first, found_at, gap_along, gaps_at, none_at, one_more}
use Rattle.cert_text.proofs.matrix_gaps.matrix_gap.Goals as goal

pub returns-then-is_some : goal.returns-then-is_some
returns-then-is_some c =
    found_at (gaps_at c.args.pack c.args.size c.args.reached.now c.args.claimed.now) 0 (words_of c.args.size) c.loop-at.at c.word_gap-gap.result
    (omega arith) (omega (arith, c.loop-at-test.true, c.requires.reached)) (λ j l. c.loop-at.invariant j)
    (gap_along c.args.pack c.args.size c.loop-at.at c.word_gap-gap.result _ _ _ _ c.word_gap-gap.ensures
    (to_z-of_z w128 (get_or c.args.reached.now c.loop-at.at (pos 0)) (search rules)) (to_z-of_z w128 (get_or c.args.claimed.now c.loop-at.at (pos 0)) (search rules)))
    (sym c.is_some.ensures ∙ c.if-is_some.true)

pub loop-at-preserved : goal.loop-at-preserved
loop-at-preserved c =
    one_more (gaps_at c.args.pack c.args.size c.args.reached.now c.args.claimed.now) c.loop-at.at c.word_gap-gap.result c.loop-at.invariant
    (gap_along c.args.pack c.args.size c.loop-at.at c.word_gap-gap.result _ _ _ _ c.word_gap-gap.ensures
    (to_z-of_z w128 (get_or c.args.reached.now c.loop-at.at (pos 0)) (search rules)) (to_z-of_z w128 (get_or c.args.claimed.now c.loop-at.at (pos 0)) (search rules)))
    (sym c.is_some.ensures ∙ c.if-is_some.false)

pub returns : goal.returns
returns c =
    sym (ap first (none_at (gaps_at c.args.pack c.args.size c.args.reached.now c.args.claimed.now) 0 (words_of c.args.size)
    (λ j l h. c.loop-at.invariant j (omega (arith, h, c.requires.reached, c.loop-at-test.false)))))
