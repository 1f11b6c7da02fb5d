use Rattle.std.proofs.Common.{arith}
use Rattle.std.proofs.lemmas.Int.{ints, clamps}
use Rattle.transfer_ranges.proofs.Keeping.{met_some, met_none}
use Rattle.transfer_ranges.proofs.intervals.within.Goals as goal

pub returns-then-low-high-clause-value : goal.returns-then-low-high-clause-value
returns-then-low-high-clause-value c =
    met_some c.args.a c.args.limit _ _ (omega (arith, ints, clamps, c.max-low.ensures.value)) (omega (arith, ints, clamps, c.min-high.ensures.value)) (omega (arith, ints, c.if-low-high.true))

pub returns-else-low-high-clause-value : goal.returns-else-low-high-clause-value
returns-else-low-high-clause-value c =
    met_none c.args.a c.args.limit c.max-low.result c.min-high.result (omega (arith, ints, clamps, c.max-low.ensures.value)) (omega (arith, ints, clamps, c.min-high.ensures.value)) (omega (arith, ints, c.if-low-high.false))
