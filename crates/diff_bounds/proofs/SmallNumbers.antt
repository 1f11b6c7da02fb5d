-- A number between small ends is small.
use Rattle.std.proofs.Common.{ℤ, ◌≤ℤ◌, arith}
use Rattle.std.proofs.lemmas.Int.{ints}
use Rattle.interval_domain.specs.Bounds.{IsSmall}

pub small_between : (low high z : ℤ) → IsSmall low → IsSmall high → low ≤ℤ z → z ≤ℤ high → IsSmall z
small_between low high z h k l m = omega (arith, ints)
