-- What is known of one cell: its order, joins and widening.
use Rattle.std.specs.Prelude.{◌≡◌, ℕ, ◌+◌, ◌-◌, ◌<◌, List, [], ◌∷◌, length, Option, Some, None, ℤ, pos, ◌≤ℤ◌, int_lt, int_le, if◌then◌else◌, slice_index_or}
use Rattle.std.specs.Int.{int_max, int_min}
use Rattle.interval_domain.specs.declared.bounds.Interval.{Interval}
use Rattle.interval_domain.specs.Corners.{interval, joined}
use Rattle.interval_domain.specs.Thresholds.{IsWithin}

-- a number of an interval, or anything
abbrev pub Known : Type 0
Known = Option Interval

abbrev pub IsOrdered : Known → Type 0
IsOrdered None = Unit {0}
IsOrdered (Some i) = i.low ≤ℤ i.high

-- an interval is ordered and within the cell's own range
abbrev pub KnownFits : Interval → Known → Type 0
KnownFits own None = Unit {0}
KnownFits own (Some i) = (own.low ≤ℤ i.low) × (i.low ≤ℤ i.high) × (i.high ≤ℤ own.high)

-- anything is above all
abbrev pub KnownBelow : Known → Known → Type 0
KnownBelow None None = Unit {0}
KnownBelow None (Some b) = ⊥
KnownBelow (Some a) None = Unit {0}
KnownBelow (Some a) (Some b) = (b.low ≤ℤ a.low) × (a.high ≤ℤ b.high)

abbrev pub joined_known : Known → Known → Known
joined_known (Some a) (Some b) = Some (joined a b)
joined_known _ _ = None

-- ---- widening by thresholds (Cousot and Cousot 1977)
abbrev pub first_of : List ℤ → ℤ
first_of thresholds = slice_index_or thresholds 0 (pos 0)

abbrev pub last_of : List ℤ → ℤ
last_of thresholds = slice_index_or thresholds (length thresholds - 1) (pos 0)

-- the greatest of `least` and the thresholds at or below z
abbrev pub greatest_below : ℤ → List ℤ → ℤ → ℤ
greatest_below least [] z = least
greatest_below least (t ∷ ts) z = if int_le t z then int_max t (greatest_below least ts z) else greatest_below least ts z

-- the least of `greatest` and the thresholds at or above z
abbrev pub least_above : ℤ → List ℤ → ℤ → ℤ
least_above greatest [] z = greatest
least_above greatest (t ∷ ts) z = if int_le z t then int_min t (least_above greatest ts z) else least_above greatest ts z

abbrev pub nearest_below : List ℤ → ℤ → ℤ
nearest_below ts z = greatest_below (first_of ts) ts z

abbrev pub nearest_above : List ℤ → ℤ → ℤ
nearest_above ts z = least_above (last_of ts) ts z

-- an end that doesn't grow stays
abbrev pub widened_low : List ℤ → ℤ → ℤ → ℤ
widened_low ts old new = if int_lt new old then nearest_below ts new else old

abbrev pub widened_high : List ℤ → ℤ → ℤ → ℤ
widened_high ts old new = if int_lt old new then nearest_above ts new else old

abbrev pub widened_known : List ℤ → Known → Known → Known
widened_known ts (Some a) (Some b) = Some (interval (widened_low ts a.low b.low) (widened_high ts a.high b.high))
widened_known ts _ _ = None

-- an interval lies between the first threshold and the last
abbrev pub KnownWithin : List ℤ → Known → Type 0
KnownWithin ts None = Unit {0}
KnownWithin ts (Some i) = IsWithin ts i

-- the first threshold and the last are the ends of the cell's own range
pub record HasEnds (own : Interval) (ts : List ℤ) : Type 0 where
  pub some : 0 < length ts
  pub first : first_of ts ≡ own.low
  pub last : last_of ts ≡ own.high

-- ---- how often it can grow
abbrev pub count_below : List ℤ → ℤ → ℕ
count_below [] z = 0
count_below (t ∷ ts) z = (if int_lt t z then 1 else 0) + count_below ts z

abbrev pub count_above : List ℤ → ℤ → ℕ
count_above [] z = 0
count_above (t ∷ ts) z = (if int_lt z t then 1 else 0) + count_above ts z

-- the thresholds beyond its ends, and once more
abbrev pub known_rank : List ℤ → Known → ℕ
known_rank ts None = 0
known_rank ts (Some i) = 1 + count_below ts i.low + count_above ts i.high
