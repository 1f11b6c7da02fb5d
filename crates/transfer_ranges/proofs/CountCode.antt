-- What the test of a counter leaves.
use Rattle.std.proofs.Common.{◌≡◌, zero, suc, ℤ, pos, negsuc, ◌≤ℤ◌, true, false, Option, refl, arith}
use Rattle.std.specs.Prelude.{not}
use Rattle.std.proofs.lemmas.Int.{ints, clamps}
use Rattle.interval_domain.specs.declared.bounds.Interval.{Interval}
use Rattle.interval_domain.specs.Corners.{interval}
use Rattle.cob_edge_parts.specs.Meaning.{is_positive}
use Rattle.transfer_ranges.specs.Kept.{met}
use Rattle.transfer_ranges.specs.Sides.{is_wanted}
use Rattle.transfer_ranges.specs.Counts.{count_kept}
use Rattle.transfer_ranges.proofs.Searches.{Passes, kept_is}
use Rattle.transfer_ranges.proofs.Besides.{if_any_least, one_least}
use Rattle.transfer_ranges.specs.Beside.{common}

positive_is : (z : ℤ) → is_positive z ≡ true → pos 1 ≤ℤ z
positive_is (pos zero) e = absurd cc
positive_is (pos (suc n)) e = omega (arith, ints)
positive_is (negsuc n) e = absurd cc

is_positive_of : (z : ℤ) → pos 1 ≤ℤ z → is_positive z ≡ true
is_positive_of (pos zero) h = absurd (omega (arith, ints))
is_positive_of (pos (suc n)) h = refl
is_positive_of (negsuc n) h = absurd (omega (arith, ints))

other_is : (z : ℤ) → not (is_positive z) ≡ true → z ≤ℤ pos 0
other_is (pos zero) e = omega (arith, ints)
other_is (pos (suc n)) e = absurd cc
other_is (negsuc n) e = omega (arith, ints)

is_other_of : (z : ℤ) → z ≤ℤ pos 0 → not (is_positive z) ≡ true
is_other_of (pos zero) h = refl
is_other_of (pos (suc n)) h = absurd (omega (arith, ints))
is_other_of (negsuc n) h = refl

pub positive_gives : (count part : Interval) (o : Option Interval) → part ≡ interval (pos 1) count.high → o ≡ met count part → o ≡ count_kept true count
positive_gives count part o e f = rw (f, e)
    (one_least (Passes (λ z. is_wanted true (is_positive z)) count) (met count (interval (pos 1) count.high)) (count_kept true count)
    (if_any_least (Passes (λ z. is_wanted true (is_positive z)) count) (common count (interval (pos 1) count.high)) (λ z. (
      λ k. ((omega (arith, ints, clamps, k.0), omega (arith, ints, clamps, k.1)), is_positive_of z (omega (arith, ints, clamps, k.0))),
      λ p. let l = positive_is z p.1 in (omega (arith, ints, clamps, p.0.0, l), omega (arith, ints, clamps, p.0.1)),
    )))
    (kept_is (λ z. is_wanted true (is_positive z)) count))

pub other_gives : (count part : Interval) (o : Option Interval) → part ≡ interval count.low (pos 0) → o ≡ met count part → o ≡ count_kept false count
other_gives count part o e f = rw (f, e)
    (one_least (Passes (λ z. is_wanted false (is_positive z)) count) (met count (interval count.low (pos 0))) (count_kept false count)
    (if_any_least (Passes (λ z. is_wanted false (is_positive z)) count) (common count (interval count.low (pos 0))) (λ z. (
      λ k. ((omega (arith, ints, clamps, k.0), omega (arith, ints, clamps, k.1)), is_other_of z (omega (arith, ints, clamps, k.1))),
      λ p. let l = other_is z p.1 in (omega (arith, ints, clamps, p.0.0), omega (arith, ints, clamps, p.0.1, l)),
    )))
    (kept_is (λ z. is_wanted false (is_positive z)) count))

pub ruleset counts = (positive_gives, other_gives)
