-- When all differences are small, by the ends.
use Rattle.std.proofs.Common.{ℤ, ◌-ℤ◌, ◌≤ℤ◌, arith}
use Rattle.std.proofs.lemmas.Int.{ints}
use Rattle.interval_domain.specs.declared.bounds.Interval.{Interval}
use Rattle.interval_domain.specs.Bounds.{IsSmall}
use Rattle.interval_domain.specs.Results.{IsDifference, AreSmall}

small_between : (low high z : ℤ) → IsSmall low → IsSmall high → low ≤ℤ z → z ≤ℤ high → IsSmall z
small_between low high z h k l m = omega (arith, ints)

pub differences_small : (a b : Interval) → IsSmall (a.low -ℤ b.high) → IsSmall (a.high -ℤ b.low) → AreSmall (IsDifference a b)
differences_small a b h k z (x, y, p, q, e) = small_between (a.low -ℤ b.high) (a.high -ℤ b.low) z h k (omega (arith, ints)) (omega (arith, ints))
