-- The error of a value that is stored at another scale.
use Rattle.std.specs.Prelude.{◌≡◌, ℕ, ◌+◌, ◌^◌, ◌≤◌, Bool, true, false, ◌&&◌, ◌||◌, if◌then◌else◌, ℤ, pos, neg_ℤ, ◌-ℤ◌, ◌*ℤ◌, ◌≤ℤ◌}
use Rattle.dec_num.specs.declared.types.Mode.{Mode}
use Rattle.dec_num.specs.declared.types.Mode.TheVariants.{Trunc, Round}
use Rattle.dec_num.specs.declared.types.Scaled.{Scaled}
use Rattle.dec_num.specs.Exact.{near}
use Rattle.dec_num.specs.Scaled.{value_of}
use Rattle.interval_domain.specs.declared.bounds.Interval.{Interval}
use Rattle.interval_domain.specs.Corners.{interval}
use Rattle.diff_bounds.specs.declared.form.known.Known.{Known}

-- where something is cut off: at most the unit, towards zero, or in either direction where it is rounded
abbrev pub one_sided : Mode → Bool → Bool → ℤ → Interval
one_sided Trunc true not_positive unit = interval (neg_ℤ unit) (pos 0)
one_sided Trunc false true unit = interval (pos 0) unit
one_sided Trunc false false unit = interval (neg_ℤ unit) unit
one_sided Round not_negative not_positive unit = interval (neg_ℤ unit) unit

-- The error is 0 where nothing is cut off, and where the value is 0.
abbrev pub error_in : Known → Mode → ℤ → Interval
error_in known mode unit =
    if known.whole || (known.not_negative && known.not_positive) then interval (pos 0) (pos 0)
    else one_sided mode known.not_negative known.not_positive unit

-- what is said to be known of a value that is stored at a scale is so
pub record AreSure (known : Known) (v : Scaled) (to : ℕ) : Type 0 where
  pub whole : known.whole ≡ true → v.scale ≤ to
  pub not_negative : known.not_negative ≡ true → pos 0 ≤ℤ v.units
  pub not_positive : known.not_positive ≡ true → v.units ≤ℤ pos 0

-- what is stored of a value, in units of the scale
abbrev pub stored_units : Mode → Scaled → ℕ → ℤ
stored_units mode v to = near mode (value_of v) (pos to)

-- The stored number less the error is the value: both sides times 10 ^ v.scale, in units of a scale that has `more`
-- decimals more than the one that is stored at.
pub record IsWithin (e : Interval) (stored : ℤ) (v : Scaled) (to more : ℕ) : Type 0 where
  pub least : ((stored *ℤ pos (10 ^ more) -ℤ e.high) *ℤ pos (10 ^ v.scale)) ≤ℤ (v.units *ℤ pos (10 ^ (to + more)))
  pub most : (v.units *ℤ pos (10 ^ (to + more))) ≤ℤ ((stored *ℤ pos (10 ^ more) -ℤ e.low) *ℤ pos (10 ^ v.scale))

-- the first interval lies in the second
pub record IsInside (a b : Interval) : Type 0 where
  pub low : b.low ≤ℤ a.low
  pub high : a.high ≤ℤ b.high

-- what is known in the second is known in the first
pub record IsSurer (known other : Known) : Type 0 where
  pub whole : other.whole ≡ true → known.whole ≡ true
  pub not_negative : other.not_negative ≡ true → known.not_negative ≡ true
  pub not_positive : other.not_positive ≡ true → known.not_positive ≡ true
