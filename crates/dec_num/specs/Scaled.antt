-- Units with a scale.
use Rattle.std.specs.Prelude.{ℕ, ◌+◌, ◌-◌, ◌^◌, ◌<◌, ◌≤◌, max, ℤ, pos, ◌+ℤ◌, ◌-ℤ◌, ◌*ℤ◌, unsigned_abs}
use Rattle.dec_num.specs.declared.types.Scaled.{Scaled}
use Rattle.dec_num.specs.Exact.{Fraction}

-- units / 10 ^ scale
abbrev pub value_of : Scaled → Fraction
value_of a = record { top = a.units; bottom = 10 ^ a.scale }

-- the units of a at a scale that isn't below its own
abbrev pub units_at : Scaled → ℕ → ℤ
units_at a scale = a.units *ℤ pos (10 ^ (scale - a.scale))

-- a can be moved to the scale
pub record CanAlign (a : Scaled) (scale : ℕ) : Type 0 where
  pub above : a.scale ≤ scale
  pub within : scale ≤ 74
  pub fits : unsigned_abs (units_at a scale) < 10 ^ 38

-- the greater of the two scales
abbrev pub joint_scale : Scaled → Scaled → ℕ
joint_scale a b = max a.scale b.scale

-- both operands and their sum fit at the greater scale
pub record CanAdd (a b : Scaled) : Type 0 where
  pub within : joint_scale a b ≤ 74
  pub left : unsigned_abs (units_at a (joint_scale a b)) < 10 ^ 38
  pub right : unsigned_abs (units_at b (joint_scale a b)) < 10 ^ 38
  pub sum : unsigned_abs (units_at a (joint_scale a b) +ℤ units_at b (joint_scale a b)) < 10 ^ 38

-- both operands and their difference fit at the greater scale
pub record CanSubtract (a b : Scaled) : Type 0 where
  pub within : joint_scale a b ≤ 74
  pub left : unsigned_abs (units_at a (joint_scale a b)) < 10 ^ 38
  pub right : unsigned_abs (units_at b (joint_scale a b)) < 10 ^ 38
  pub difference : unsigned_abs (units_at a (joint_scale a b) -ℤ units_at b (joint_scale a b)) < 10 ^ 38

-- the product fits
pub record CanMultiply (a b : Scaled) : Type 0 where
  pub within : a.scale + b.scale ≤ 74
  pub product : unsigned_abs (a.units *ℤ b.units) < 10 ^ 38
