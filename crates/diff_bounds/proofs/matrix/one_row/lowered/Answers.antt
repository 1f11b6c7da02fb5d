use Rattle.std.proofs.Common.{ℤ, ◌+ℤ◌, ◌≤ℤ◌, ◌<ℤ◌, refl, arith}
use Rattle.std.proofs.lemmas.Int.{ints, clamps}
use Rattle.diff_bounds.specs.Matrix.{largest}
use Rattle.diff_bounds.proofs.RowSums.{lowered_by, lowered_not}
use Rattle.diff_bounds.proofs.matrix.one_row.lowered.Goals as goal
use Rattle.diff_bounds.proofs.matrix.one_row.lowered.Goals.{else-sum-word-via-then-sum-word+else-sum-le-LARGEST, else-sum-word-via-else-sum-word}

pub returns-then-sum-le-LARGEST : goal.returns-then-sum-le-LARGEST
returns-then-sum-le-LARGEST c =
    let a = c.requires.first.low in let b = c.requires.first.top in let d = c.requires.second.low in let e = c.requires.second.top in
    let less = c.if-sum-word.true in let small = c.if-sum-le-LARGEST.true in let is = c.max.ensures.value in
    lowered_by c.args.word c.args.first c.args.second (c.args.first +ℤ c.args.second) _ c.requires.word c.requires.first c.requires.second refl
    (omega (arith, ints, a, b, d, e, less))
    (omega (arith, ints, a, b, d, e, small))
    (omega (arith, ints, clamps, a, b, d, e, is))

pub returns-else-sum-word : goal.returns-else-sum-word
returns-else-sum-word c =
    let a = c.requires.first.low in let b = c.requires.first.top in let d = c.requires.second.low in let e = c.requires.second.top in
    lowered_not c.args.word c.args.first c.args.second (c.args.first +ℤ c.args.second) _ c.requires.word refl
    (λ (lt : (c.args.first +ℤ c.args.second) <ℤ c.args.word) (le : (c.args.first +ℤ c.args.second) ≤ℤ largest). elim c.else-sum-word.branch [
      | else-sum-word-via-then-sum-word+else-sum-le-LARGEST w ↦ let high = w.if-sum-le-LARGEST.false in absurd (omega (arith, ints, a, b, d, e, le, high))
      | else-sum-word-via-else-sum-word w ↦ let high = w.if-sum-word.false in absurd (omega (arith, ints, a, b, d, e, lt, high))
    ])
    (omega (arith, ints))
