use Rattle.std.proofs.Common.{◌≡◌, true, false, refl, sym, ◌∙◌, arith}
use Rattle.bench.proofs.Levels.{row_width, above_tells, below_tells}
use Rattle.bench.proofs.chain.is_below.Goals as goal

pub is_above-requires-clause-b : goal.is_above-requires-clause-b
is_above-requires-clause-b c = omega (arith, c.loop-k-test.true, row_width c.args.a.now c.requires.a, row_width c.args.b.now c.requires.b)

pub loop-k-preserved : goal.loop-k-preserved
loop-k-preserved c = λ some.
    let a = c.args.a.now in let b = c.args.b.now in
    below_tells a b c.loop-k.k c.requires.a c.requires.b c.loop-k-test.true (λ above. let told : false ≡ true = sym c.if-is_above.false ∙ c.is_above.ensures.1 above in absurd (cc))

pub returns-then-is_above : goal.returns-then-is_above
returns-then-is_above c =
    let a = c.args.a.now in let b = c.args.b.now in
    (λ told. absurd (cc), λ below. absurd (above_tells a b c.loop-k.k c.requires.a c.requires.b c.loop-k-test.true (c.is_above.ensures.0 c.if-is_above.true) below))

pub returns : goal.returns
returns c =
    let a = c.args.a.now in
    (λ told. c.loop-k.invariant (omega (arith, c.loop-k-test.false, row_width a c.requires.a)), λ below. refl)
