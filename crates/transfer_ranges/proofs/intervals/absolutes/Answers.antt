use Rattle.std.proofs.Common.{arith}
use Rattle.std.proofs.lemmas.Int.{ints, clamps}
use Rattle.transfer_ranges.proofs.Keeping.{absolutes_from}
use Rattle.transfer_ranges.proofs.intervals.absolutes.Goals as goal

pub returns : goal.returns
returns c =
    absolutes_from c.args.a _ _ (omega (arith, ints, clamps, c.max.ensures.value, c.max-2.ensures.value)) (omega (arith, ints, clamps, c.greatest_size.ensures.value))
