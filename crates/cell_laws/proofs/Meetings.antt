-- What the numbers of two intervals leave of one of them.
use Rattle.std.proofs.Common.{Option, Some, None, ◌≤ℤ◌, arith}
use Rattle.std.specs.Prelude.{IfSome}
use Rattle.std.specs.Int.{int_max, int_min}
use Rattle.std.proofs.lemmas.Int.{ints, clamps}
use Rattle.interval_domain.specs.declared.bounds.Interval.{Interval}
use Rattle.transfer_ranges.specs.Results.{IsInside, IsInsideIfAny}
use Rattle.transfer_ranges.specs.Kept.{met, IsPartOf, UnitsBelow}
use Rattle.transfer_ranges.proofs.Least.{between_part, met_below}

-- some of its numbers
pub table_cut : (i t : Interval) → IfSome (met i t) (λ w. IsInside w i × (w.low ≤ℤ w.high))
table_cut i t =
    go (met i t) (between_part (int_max i.low t.low) (int_min i.high t.high) i (omega (arith, ints, clamps)) (omega (arith, ints, clamps)))
  where
    go : (o : Option Interval) → IfSome o (λ w. IsPartOf w i) → IfSome o (λ w. IsInside w i × (w.low ≤ℤ w.high))
    go None h = tt
    go (Some w) h = ((h.low, h.high), h.ordered)

-- and more of them where it is wider
pub cut_rises : (i j t : Interval) → IsInside i j → IsInsideIfAny (met i t) (met j t)
cut_rises i j t h = go (met i t) (met j t) (met_below i t j t h (omega (arith, ints), omega (arith, ints)))
  where
    go : (o q : Option Interval) → UnitsBelow o q → IsInsideIfAny o q
    go None q h = tt
    go (Some i) None h = h
    go (Some i) (Some j) h = h
