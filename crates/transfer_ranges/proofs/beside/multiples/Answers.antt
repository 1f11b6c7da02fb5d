use Rattle.std.proofs.Common.{arith}
use Rattle.std.proofs.lemmas.Int.{ints}
use Rattle.transfer_ranges.proofs.Besides.{held_small, multiples_least}
use Rattle.transfer_ranges.proofs.beside.multiples.Goals as goal

pub returns-then-a : goal.returns-then-a
returns-then-a c = multiples_least c.args.a c.args.scale c.raised.result (omega (arith, ints, c.if-a.true)) c.raised.ensures

pub raised-requires-clause-low : goal.raised-requires-clause-low
raised-requires-clause-low c =
    held_small c.args.whole _ c.requires.whole (c.requires.within c.args.a.units.low (omega (arith, ints), omega (arith, ints, c.if-a.true)))

pub raised-requires-clause-high : goal.raised-requires-clause-high
raised-requires-clause-high c =
    held_small c.args.whole _ c.requires.whole (c.requires.within c.args.a.units.high (omega (arith, ints, c.if-a.true), omega (arith, ints)))

pub returns-else-a : goal.returns-else-a
returns-else-a c z m = absurd (omega (arith, ints, c.if-a.false, m.1.0, m.1.1))
