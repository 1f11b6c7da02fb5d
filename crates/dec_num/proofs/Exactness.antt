-- The results of `align`, `add`, `sub` and `mul` are the exact ones.
use Rattle.std.proofs.Common.{◌≡◌, ℕ, ◌+◌, ◌*◌, ℤ, pos, ◌+ℤ◌, ◌-ℤ◌, ◌*ℤ◌, refl, ap, arith}
use Rattle.std.specs.Prelude.{unsigned_abs, ◌≢◌, ◌-◌, ◌<◌, ◌≤◌, ◌^◌}
use Rattle.std.proofs.lemmas.Int.{ints, unsigned_abs-mul}
use Rattle.dec_num.specs.declared.types.Scaled.{Scaled}
use Rattle.dec_num.specs.Exact.{IsSameNumber, sum_of, difference_of, product_of}
use Rattle.dec_num.specs.Scaled.{value_of, units_at, joint_scale, CanAlign}
use Rattle.dec_num.proofs.Powers.{ten-add, ten_split, exponent_below}
use Rattle.dec_num.proofs.Signed.{times_times, sum_times, neg_ℤ_times}

across : (p q u m : ℕ) → m ≡ p * u → u * (p * q) ≡ q * m
across p q u m e = omega (arith, ap (λ n. q * n) e)

scaled_same : (x : ℤ) (p u m : ℕ) → m ≡ p * u → (x *ℤ pos u) *ℤ pos p ≡ x *ℤ pos m
scaled_same x p u m e = let f : u * p ≡ m = omega arith in simp times_times (rw f refl)

scaled_sum : (x y : ℤ) (p q u v m : ℕ) → m ≡ p * u → m ≡ q * v → (x *ℤ pos u +ℤ y *ℤ pos v) *ℤ pos (p * q) ≡ (x *ℤ pos q +ℤ y *ℤ pos p) *ℤ pos m
scaled_sum x y p q u v m e f =
    let g : u * (p * q) ≡ q * m = across p q u m e in
    let h : v * (p * q) ≡ p * m = omega (arith, across q p v m f) in
    simp (sum_times, times_times) (rw (g, h) refl)

scaled_difference : (x y : ℤ) (p q u v m : ℕ) → m ≡ p * u → m ≡ q * v → (x *ℤ pos u -ℤ y *ℤ pos v) *ℤ pos (p * q) ≡ (x *ℤ pos q -ℤ y *ℤ pos p) *ℤ pos m
scaled_difference x y p q u v m e f =
    let g : u * (p * q) ≡ q * m = across p q u m e in
    let h : v * (p * q) ≡ p * m = omega (arith, across q p v m f) in
    simp (sum_times, neg_ℤ_times, times_times) (rw (g, h) refl)

pub align_is_exact : (a r : Scaled) (scale : ℕ) → a.scale ≤ scale → r.scale ≡ scale → r.units ≡ units_at a scale → IsSameNumber (value_of r) (value_of a)
align_is_exact a r scale h e f =
    rw (e, f) (scaled_same a.units (10 ^ a.scale) (10 ^ (scale - a.scale)) (10 ^ scale) (ten_split a.scale scale h))

pub add_is_exact : (a b r : Scaled) → r.scale ≡ joint_scale a b → r.units ≡ units_at a (joint_scale a b) +ℤ units_at b (joint_scale a b) → IsSameNumber (value_of r) (sum_of (value_of a) (value_of b))
add_is_exact a b r e f =
    rw (e, f)
    (scaled_sum a.units b.units _ _ _ _ _ (ten_split a.scale (joint_scale a b) (omega arith)) (ten_split b.scale (joint_scale a b) (omega arith)))

pub sub_is_exact : (a b r : Scaled) → r.scale ≡ joint_scale a b → r.units ≡ units_at a (joint_scale a b) -ℤ units_at b (joint_scale a b) → IsSameNumber (value_of r) (difference_of (value_of a) (value_of b))
sub_is_exact a b r e f =
    rw (e, f)
    (scaled_difference a.units b.units _ _ _ _ _ (ten_split a.scale (joint_scale a b) (omega arith)) (ten_split b.scale (joint_scale a b) (omega arith)))

pub mul_is_exact : (a b r : Scaled) → r.scale ≡ a.scale + b.scale → r.units ≡ a.units *ℤ b.units → IsSameNumber (value_of r) (product_of (value_of a) (value_of b))
mul_is_exact a b r e f = rw (e, f, ten-add a.scale b.scale) refl

-- the power that `align` needs
pub CanAlign_power : (a : Scaled) (scale : ℕ) → a.units ≢ pos 0 → CanAlign a scale → scale - a.scale ≤ 38
CanAlign_power a scale nonzero h = omega (arith, exponent_below (unsigned_abs a.units) (scale - a.scale) 38 (abs_positive a.units nonzero) (rw (unsigned_abs-mul a.units (pos (10 ^ (scale - a.scale)))) at h.fits))
  where
    abs_positive : (x : ℤ) → x ≢ pos 0 → 0 < unsigned_abs x
    abs_positive x h = omega (arith, ints)

-- the units at the own scale
pub own_units : (a b : Scaled) → a.scale ≡ b.scale → (units_at a (joint_scale a b) ≡ a.units) × (units_at b (joint_scale a b) ≡ b.units)
own_units a b e = (unmoved a (joint_scale a b) (omega arith), unmoved b (joint_scale a b) (omega arith))
  where
    unmoved : (v : Scaled) (scale : ℕ) → scale ≡ v.scale → units_at v scale ≡ v.units
    unmoved v scale f = let g : scale - v.scale ≡ 0 = omega arith in rw g (omega (arith, ints))

-- ---- what the calls need
pub ruleset aligning = (align_is_exact, CanAlign_power)

pub ruleset adding = (add_is_exact, own_units)

pub ruleset subtracting = (sub_is_exact, own_units)
