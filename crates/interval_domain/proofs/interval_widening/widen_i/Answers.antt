use Rattle.std.proofs.Common.{inl, inr, arith}
use Rattle.std.proofs.lemmas.Int.{ints}
use Rattle.interval_domain.proofs.interval_widening.widen_i.Goals as goal

pub returns-clause-holds : goal.returns-clause-holds
returns-clause-holds c z h =
    let low = c.widened_low.ensures.below in
    let high = c.widened_high.ensures.above in
    elim h [ inl a ↦ (omega (arith, ints, low, a.0), omega (arith, ints, high, a.1)) | inr b ↦ (omega (arith, ints, low, b.0), omega (arith, ints, high, b.1)) ]
