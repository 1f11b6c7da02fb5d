-- Decimals of one scale between two of them.
use Rattle.std.specs.Prelude.{◌≡◌, ℕ, ℤ, ◌≤ℤ◌, Option, Some, None}
use Rattle.dec_num.specs.declared.types.Scaled.{Scaled}
use Rattle.interval_domain.specs.declared.bounds.Interval.{Interval}
use Rattle.interval_domain.specs.Bounds.{Holds}
use Rattle.interval_domain.specs.Corners.{interval}
use Rattle.sum_ranges.specs.declared.ranged.Ranged.{Ranged}

abbrev pub decimal : ℤ → ℕ → Scaled
decimal units scale = record { units = units; scale = scale }

abbrev pub ranged : Interval → ℕ → Ranged
ranged units scale = record { units = units; scale = scale }

-- the range of one number
abbrev pub point : Scaled → Ranged
point v = ranged (interval v.units v.units) v.scale

-- the number lies in the range
pub record IsIn (v : Scaled) (r : Ranged) : Type 0 where
  pub held : Holds r.units v.units
  pub scale : v.scale ≡ r.scale

-- some number lies in the range
abbrev pub IsOrdered : Ranged → Type 0
IsOrdered r = r.units.low ≤ℤ r.units.high

-- some number lies in a, and each that does lies in b
pub record IsNarrower (a b : Ranged) : Type 0 where
  pub ordered : IsOrdered a
  pub low : b.units.low ≤ℤ a.units.low
  pub high : a.units.high ≤ℤ b.units.high
  pub scale : a.scale ≡ b.scale

-- so it is, or there is no number at all
abbrev pub IsBelow : Option Ranged → Option Ranged → Type 0
IsBelow None b = Unit {0}
IsBelow (Some a) None = ⊥
IsBelow (Some a) (Some b) = IsNarrower a b
