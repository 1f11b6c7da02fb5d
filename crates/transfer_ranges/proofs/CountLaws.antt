-- What is left of a counter.
use Rattle.std.proofs.Common.{◌≡◌, ℤ, ◌≤ℤ◌, Bool, Option, Some, None, arith}
use Rattle.std.specs.Prelude.{IsSomeAnd, IfSome}
use Rattle.std.proofs.lemmas.Int.{ints}
use Rattle.interval_domain.specs.declared.bounds.Interval.{Interval}
use Rattle.interval_domain.specs.Bounds.{Holds}
use Rattle.cob_edge_parts.specs.Meaning.{is_positive}
use Rattle.transfer_ranges.specs.Kept.{IsLeastIfAny, IsPartOf, UnitsBelow}
use Rattle.transfer_ranges.specs.Sides.{is_wanted}
use Rattle.transfer_ranges.specs.Counts.{count_kept}
use Rattle.transfer_ranges.proofs.Searches.{Passes, kept_is}
use Rattle.transfer_ranges.proofs.InRanges.{wanted_is}

module _ (wanted : Bool) where
  pub count_holds : (i : Interval) (v : ℤ) → Holds i v → is_positive v ≡ wanted → IsSomeAnd (count_kept wanted i) (λ j. Holds j v)
  count_holds i v h e = go (count_kept wanted i) (kept_is (λ z. is_wanted wanted (is_positive z)) i)
    where
      go : (o : Option Interval) → IsLeastIfAny (Passes (λ z. is_wanted wanted (is_positive z)) i) o → IsSomeAnd o (λ j. Holds j v)
      go None k = k v (h, wanted_is wanted (is_positive v) e)
      go (Some j) k = k.holds v (h, wanted_is wanted (is_positive v) e)

  pub count_rises : (i j : Interval) → j.low ≤ℤ i.low → i.high ≤ℤ j.high → UnitsBelow (count_kept wanted i) (count_kept wanted j)
  count_rises i j low high = go (count_kept wanted i) (count_kept wanted j) (kept_is (λ z. is_wanted wanted (is_positive z)) i) (kept_is (λ z. is_wanted wanted (is_positive z)) j)
    where
      wider : (z : ℤ) → Passes (λ z. is_wanted wanted (is_positive z)) i z → Passes (λ z. is_wanted wanted (is_positive z)) j z
      wider z p = ((omega (arith, ints, low, p.0.0), omega (arith, ints, high, p.0.1)), p.1)

      go : (o q : Option Interval) → IsLeastIfAny (Passes (λ z. is_wanted wanted (is_positive z)) i) o → IsLeastIfAny (Passes (λ z. is_wanted wanted (is_positive z)) j) q → UnitsBelow o q
      go None q h k = tt
      go (Some a) None h k = k a.low (wider a.low h.low_is_one)
      go (Some a) (Some b) h k = ((k.holds a.low (wider a.low h.low_is_one)).0, (k.holds a.high (wider a.high h.high_is_one)).1)

  pub count_part : (i : Interval) → IfSome (count_kept wanted i) (λ j. IsPartOf j i)
  count_part i = go (count_kept wanted i) (kept_is (λ z. is_wanted wanted (is_positive z)) i)
    where
      go : (o : Option Interval) → IsLeastIfAny (Passes (λ z. is_wanted wanted (is_positive z)) i) o → IfSome o (λ j. IsPartOf j i)
      go None k = tt
      go (Some a) k = record { low = k.low_is_one.0.0; ordered = (k.holds a.low k.low_is_one).1; high = k.high_is_one.0.1 }
