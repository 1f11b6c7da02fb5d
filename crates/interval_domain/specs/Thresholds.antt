-- Widening by thresholds.
use Rattle.std.specs.Prelude.{◌≡◌, ℕ, ◌-◌, ◌<◌, List, ℤ, pos, ◌≤ℤ◌, length, slice_index_or}
use Rattle.interval_domain.specs.declared.bounds.Interval.{Interval}

abbrev pub IsListed : List ℤ → ℤ → Type 0
IsListed thresholds t = (k : ℕ) × (k < length thresholds) × (slice_index_or thresholds k (pos 0) ≡ t)

-- the interval lies between the first threshold and the last
abbrev pub IsWithin : List ℤ → Interval → Type 0
IsWithin thresholds i = (0 < length thresholds) × (slice_index_or thresholds 0 (pos 0) ≤ℤ i.low) × (i.high ≤ℤ slice_index_or thresholds (length thresholds - 1) (pos 0))

-- the greatest threshold at or below z
pub record IsNearestBelow (thresholds : List ℤ) (z t : ℤ) : Type 0 where
  pub listed : IsListed thresholds t
  pub below : t ≤ℤ z
  pub nearest : (u : ℤ) → IsListed thresholds u → u ≤ℤ z → u ≤ℤ t

-- the least threshold at or above z
pub record IsNearestAbove (thresholds : List ℤ) (z t : ℤ) : Type 0 where
  pub listed : IsListed thresholds t
  pub above : z ≤ℤ t
  pub nearest : (u : ℤ) → IsListed thresholds u → z ≤ℤ u → t ≤ℤ u
