use Rattle.std.proofs.Common.{arith}
use Rattle.std.proofs.lemmas.Int.{ints}
use Rattle.diff_bounds.proofs.PackRows.{not_least, is_the_least}
use Rattle.diff_bounds.proofs.rows.least.is_least_matrix.Goals as goal

pub returns-then-least_word-m : goal.returns-then-least_word-m
returns-then-least_word-m c =
    let e = c.least_word.ensures in
    let h = c.if-least_word-m.true in
    not_least c.args.size c.args.m.now c.loop-at.at c.requires.width (omega arith) (omega (arith, ints, e, h))

pub returns : goal.returns
returns c = is_the_least c.args.size c.args.m.now c.requires.width (λ k h. c.loop-at.invariant k (omega (arith, h)))
