use Rattle.std.proofs.Common.{inl, arith}
use Rattle.std.proofs.lemmas.Int.{ints}
use Rattle.interval_domain.specs.Known.{widened_low, widened_high}
use Rattle.interval_domain.proofs.Ends.{low_is, high_is, interval_is}
use Rattle.interval_domain.proofs.widening.widen_interval.Goals as goal

pub returns-clause-value : goal.returns-clause-value
returns-clause-value c =
    interval_is c.widen_i.result (widened_low c.args.thresholds.now c.args.a.low c.args.b.low) (widened_high c.args.thresholds.now c.args.a.high c.args.b.high)
    (low_is c.args.thresholds.now c.args.a.low c.args.b.low c.widen_i.result.low c.requires.b.0 c.requires.b.1 c.widen_i.ensures.low_kept c.widen_i.ensures.low_moved)
    (high_is c.args.thresholds.now c.args.a.high c.args.b.high c.widen_i.result.high c.requires.b.0 c.requires.b.2 c.widen_i.ensures.high_kept c.widen_i.ensures.high_moved)

pub returns-clause-ordered : goal.returns-clause-ordered
returns-clause-ordered c = let h = c.widen_i.ensures.holds c.args.a.low (inl (omega (arith, ints), c.requires.a)) in omega (arith, ints, h.0, h.1)
