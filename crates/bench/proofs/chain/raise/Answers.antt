use Rattle.std.proofs.Common.{◌≡◌, ◌<◌, ◌∙◌, pos, length, get_or, arith}
use Rattle.std.specs.Int.{int_max}
use Rattle.bench.specs.Wide.{word}
use Rattle.bench.proofs.Levels.{row_width, word_at, filled_more, filled_all}
use Rattle.bench.proofs.chain.raise.Goals as goal

pub raise_at-requires-clause-b : goal.raise_at-requires-clause-b
raise_at-requires-clause-b c = omega (arith, c.loop-k-test.true, row_width c.args.a.now c.requires.a, row_width c.args.b.now c.requires.b)

pub loop-k-preserved : goal.loop-k-preserved
loop-k-preserved c =
    let a = c.args.a.now in let b = c.args.b.now in let k = c.loop-k.k in
    let less : k < length a = c.loop-k-test.true in
    let other : k < length b = omega (arith, less, row_width a c.requires.a, row_width b c.requires.b) in
    let of_a : get_or c.loop-k.a k (pos 0) ≡ word a = c.loop-k.invariant.above k (omega arith) ∙ word_at a k (pos 0) c.requires.a less in
    let of_b : get_or b k (pos 0) ≡ word b = word_at b k (pos 0) c.requires.b other in
    rw (c.raise_at.ensures) (filled_more a c.loop-k.a (int_max (word a) (word b)) k (int_max (get_or c.loop-k.a k (pos 0)) (get_or b k (pos 0))) less (λ i. int_max (of_a i) (of_b i)) c.loop-k.invariant)

pub returns : goal.returns
returns c =
    let a = c.args.a.now in
    filled_all a c.loop-k.a (int_max (word a) (word c.args.b.now)) c.loop-k.k (row_width a c.requires.a) (omega (arith, c.loop-k-test.false, row_width a c.requires.a)) c.loop-k.invariant
